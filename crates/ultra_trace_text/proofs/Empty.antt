-- units that hold nothing have no line
use Rattle.std.proofs.Common.{ℕ, ◌≡◌, ◌+◌, ◌-◌, ◌*◌, ◌/◌, ◌%◌, ◌^◌, ◌<◌, List, [], false, ◌∙◌, sym, arith}
use Rattle.std.proofs.{Math.Nat.mod-lt, lemmas.Nat.{div-add-mod', div_below, pow_pos}}
use Rattle.ultra_model.specs.Machine.{Machine}
use Rattle.ultra_topology.specs.Numbers.{switch_count, switch_number, module_number, element_number}
use Rattle.ultra_block.specs.{Held.{Held, TheVariants.{Reply, Request, Record}}, Holding.holds}
use Rattle.ultra_block.proofs.NothingHeld.{no_replies, no_requests, no_records, no_reply, no_request, none_pending}
use Rattle.ultra_model.specs.Trace.{pni_lines, req_lines, wait_lines, inp_lines, out_lines, rep_lines}
use Rattle.ultra_trace_text.specs.Ports.{port_line}
use Rattle.ultra_trace_text.proofs.{Rows.lines_at, Skipped.two_lines}

two_none : (line : ℕ → List ℕ) (k : ℕ) → line (2 * k) ≡ [] → line (2 * k + 1) ≡ [] → two_lines line k ≡ []
two_none line k first second = cc

module _ (d : ℕ) (m : Machine) where
  -- ---- switch n
  module _ (n : ℕ) (hn : n < switch_count d) where
    abbrev s : ℕ
    s = n / 2 ^ (d - 1)

    abbrev k : ℕ
    k = n % 2 ^ (d - 1)

    number_is : 0 + n ≡ switch_number d s k
    number_is = let e : 0 + n ≡ n = omega arith in e ∙ sym (div-add-mod' n (2 ^ (d - 1)))

    hs : s < d
    hs = div_below n (2 ^ (d - 1)) d (pow_pos (d - 1)) hn

    hk : k < 2 ^ (d - 1)
    hk = mod-lt n (pow_pos (d - 1))

    no_request_lines : holds d m Request (0 + n) ≡ false → lines_at (2 ^ (d - 1)) (req_lines m) n ≡ []
    no_request_lines none =
        let empty = no_requests d m s k hs hk in
        grind (arith, number_is)

    no_record_lines : holds d m Record (0 + n) ≡ false → lines_at (2 ^ (d - 1)) (wait_lines m) n ≡ []
    no_record_lines none =
        let empty = no_records d m s k hs hk in
        grind (arith, number_is)

    no_reply_lines : holds d m Reply (0 + n) ≡ false → lines_at (2 ^ (d - 1)) (rep_lines m) n ≡ []
    no_reply_lines none =
        let empty = no_replies d m s k hs hk in
        grind (arith, number_is)

    -- of any kind
    pub no_port_lines : (held : Held) → holds d m held (0 + n) ≡ false → lines_at (2 ^ (d - 1)) (port_line held m) n ≡ []
    no_port_lines Reply none = no_reply_lines none
    no_port_lines Request none = no_request_lines none
    no_port_lines Record none = no_record_lines none

  -- ---- module k
  module _ (k : ℕ) (hk : k < 2 ^ d) where
    pub no_inp_line_of : holds d m Request (module_number d 0 + k) ≡ false → inp_lines m k ≡ []
    no_inp_line_of none = let empty = no_request d m k hk in grind arith

    pub no_out_line_of : holds d m Reply (module_number d 0 + k) ≡ false → out_lines m k ≡ []
    no_out_line_of none = let empty = no_reply d m k hk in grind arith

    -- ---- processing element k
    pub no_pni_line_of : holds d m Request (element_number d 0 + k) ≡ false → pni_lines m k ≡ []
    no_pni_line_of none = let empty = none_pending d m k hk in grind arith
