use Rattle.std.proofs.Common.{◌≡◌, ◌↔◌, ℕ, nat_lt, true, [], ap, sym, subst, ◌∙◌}
use Rattle.tl.specs.Marks.{IsAbove}
use Rattle.tl.specs.Walker.{path_from}
use Rattle.tl.proofs.Frames.{path-push}
use Rattle.tl.proofs.Marks.{above_last}
use Rattle.tl.proofs.walk.path.is_above.Goals as goal

pub returns-in-Some : goal.returns-in-Some
returns-in-Some c =
    let path = ap (path_from []) c.in-Some.ensures.cases.0 ∙ path-push [] c.in-Some.last.1.now c.in-Some.last.0.now in
    let tells = above_last c.in-Some.last.0.now.handle c.args.handle (path_from [] c.args.frames.now) _ path in
    let P : ℕ → Type 0 = λ k. (nat_lt k c.get_inner-in-Some.result ≡ true) ↔ IsAbove c.args.handle (path_from [] c.args.frames.now) in
    let Q : ℕ → Type 0 = λ h. (nat_lt c.in-Some.last.0.now.handle h ≡ true) ↔ IsAbove c.args.handle (path_from [] c.args.frames.now) in
    subst P (sym c.get_inner.ensures) (subst Q (sym c.get_inner-in-Some.ensures) tells)
