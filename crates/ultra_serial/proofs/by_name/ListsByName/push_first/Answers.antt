use Rattle.std.proofs.{Common.{◌≡◌, ℕ, subst, ap, ◌∙◌}, lemmas.Result.on_ok_weaker}
use Rattle.ultra_serial.specs.{declared.by_name.ListsByName.ListsByName, ByPair.{list_of, lists_with}, ByName.{one_at, place_of, list_named}}
use Rattle.ultra_serial.proofs.Places.{other_pushed, same_item, both_none}
use Rattle.ultra_serial.proofs.by_name.ListsByName.push_first.Goals as goal

pub returns : goal.returns
returns g c =
    let p = c.args.name.pe in
    let n = c.args.name.number in
    let whole = c.args.whole.now in
    let k = c.set_place.new.self in
    let still = c.set_place.ensures.unchanged c.if-set_place.false in
    let none = both_none (list_of k.others.lists p n) (one_at whole (place_of k.rows.items p n)) (ap (λ (v : ListsByName g.row.T.Denot). list_named v whole p n) still ∙ c.requires.none) in
    on_ok_weaker c.push.result (λ grown x at a b.
    let same = same_item whole c.args.index c.index-whole-index.result x c.requires.within c.index-whole-index.is at in
    other_pushed whole p n (place_of k.rows.items) x (list_of k.others.lists) (list_of c.push.new.self.lists)
    (subst (λ y. (a b : ℕ) → list_of c.push.new.self.lists a b ≡ lists_with (list_of k.others.lists) p n y a b) same grown) (λ z. none) a b
    ∙ ap (λ (v : ListsByName g.row.T.Denot). lists_with (list_named v whole) p n x a b) still) c.push.ensures
