use Rattle.std.proofs.{Common.{◌≡◌, ℕ, subst, ap, ◌∙◌}, lemmas.Result.on_ok_weaker}
use Rattle.ultra_serial.specs.{ByPair.{is_pair, list_of, lists_with, with_item}, ByName.place_of}
use Rattle.ultra_serial.proofs.Places.{other_pushed, same_item}
use Rattle.ultra_serial.proofs.by_name.ListsByName.push.Goals as goal

pub returns : goal.returns
returns g c =
    let p = c.args.name.pe in
    let n = c.args.name.number in
    let whole = c.args.whole.now in
    let k = c.keep_first.new.self in
    on_ok_weaker c.push.result (λ grown x at a b.
    let same = same_item whole c.args.index c.index-whole-index.result x c.requires.within c.index-whole-index.is at in
    other_pushed whole p n (place_of k.rows.items) x (list_of k.others.lists) (list_of c.push.new.self.lists)
    (subst (λ y. (a b : ℕ) → list_of c.push.new.self.lists a b ≡ lists_with (list_of k.others.lists) p n y a b) same grown) c.in_ok-keep_first.ensures.kept a b
    ∙ ap (λ us. with_item (is_pair p n a b) us x) (c.in_ok-keep_first.ensures.same a b)) c.push.ensures
