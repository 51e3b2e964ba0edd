use Rattle.std.proofs.Common.{ap, arith, Some, sym, ℕ, ◌∙◌}
use Rattle.tl_tree.proofs.Skips.{none-placed, none-there, number-at, number-found}
use Rattle.tl_tree.specs.Inner.Entered.{entered}
use Rattle.tl_tree.proofs.scopes.Scopes.place_of.Goals as goal
use Rattle.tl_tree.proofs.scopes.Scopes.place_of.Goals.{then-place-len-via-else-place-len+then-index-number, then-place-len-via-then-place-len}

pub returns-then-index-len-clause-none : goal.returns-then-index-len-clause-none
unfolding entered
returns-then-index-len-clause-none c =
    let s = c.args.self.now in
    let many = s.places.ok.0 in
    λ _. none-placed s c.args.number (omega arith)

pub returns-then-place-len-clause-none : goal.returns-then-place-len-clause-none
unfolding entered
returns-then-place-len-clause-none c =
    let s = c.args.self.now in
    let many = s.places.ok.0 in
    let deep = s.entries.ok.0 in
    λ _. none-there s c.args.number c.index.result.now (omega arith) c.index.ensures
    (λ within same.
    elim c.then-place-len.branch [
      | then-place-len-via-then-place-len w ↦ omega arith
      | then-place-len-via-else-place-len+then-index-number w ↦ w.if-index-number.true
          (sym (number-at s.entries.items c.index.result.now w.index-else-place-len.result.now within w.index-else-place-len.ensures) ∙ same)
    ])

pub returns-clause-some : goal.returns-clause-some
unfolding entered
returns-clause-some c =
    let s = c.args.self.now in
    let deep = s.entries.ok.0 in
    number-found s.entries.items c.index.result.now c.index-else-place-len.result.now (omega arith) c.index-else-place-len.ensures
    ∙ ap (λ (n : ℕ). Some n) c.if-index-number.false
