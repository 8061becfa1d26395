use Rattle.std.proofs.Common.{◌≡◌, ◌^◌, [], ◌∷◌, ◌++◌, ◌∙◌, length, sym, ap, arith}
use Rattle.ultra_model.specs.Places.{places}
use Rattle.ultra_model.proofs.Each.{length-places, places_none, places_more}
use Rattle.ultra_latency.proofs.OpenLaw.{fresh_rows}
use Rattle.ultra_latency.proofs.open.OpenTable.new.Goals as goal

pub loop-init : goal.loop-init
loop-init c = record {
  rows = c.in_ok-rows.ensures.items ∙ sym (places_none (λ p. []));
  capacity = c.in_ok-rows.ensures.exact;
}

pub push_reserved-requires : goal.push_reserved-requires
push_reserved-requires c =
    let rows = c.loop.invariant.rows in
    let long = ap length rows ∙ length-places c.loop.counter (λ p. []) in
    omega (arith, long, c.loop.invariant.capacity)

pub loop-preserved : goal.loop-preserved
loop-preserved c = record {
  rows =
      c.push_reserved.ensures.items
      ∙ ap (λ xs. xs ++ c.new.result ∷ []) c.loop.invariant.rows
      ∙ ap (λ o. places c.loop.counter (λ p. []) ++ o ∷ []) c.new.ensures
      ∙ sym (places_more c.loop.counter (λ p. []));
  capacity = c.push_reserved.ensures.capacity ∙ c.loop.invariant.capacity;
}

pub returns : goal.returns
returns c = λ program.
    let all : c.loop.counter ≡ c.size-pes.result = omega arith in
    let size = c.size-pes.ensures.value ∙ ap (λ d. 2 ^ d) c.net.ensures in
    record {
      rows = c.loop.invariant.rows ∙ ap (λ n. places n (λ p. [])) (all ∙ size) ∙ sym (fresh_rows c.args.config.now program);
      capacity = c.loop.invariant.capacity ∙ size;
    }
