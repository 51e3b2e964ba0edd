use Rattle.std.proofs.Common.{◌≡◌, ◌≤◌, ◌+◌, ◌||◌, length, drop, subst, sym, ap, ◌∙◌, arith}
use Rattle.std.proofs.lemmas.List.{at_drop_all, take_rest}
use Rattle.std.specs.List.{list_any, prefix_len}
use Rattle.std.specs.Str.{bytes_eq}
use Rattle.tl_spec.specs.Lookup.ClassMember.{parts}
use Rattle.tl_attributes.proofs.ClassParts.{in_part, run_at, no_run_at}
use Rattle.tl_attributes.proofs.class_iter.has_part.Goals as goal
use Rattle.tl_attributes.proofs.class_iter.has_part.Goals.{else-at-end-via-then-at-end+else-eq, else-at-end-via-else-at-end}

pub returns-then-eq : goal.returns-then-eq
returns-then-eq c =
    let bs = c.args.bytes.now in
    let at = c.loop-at.at in
    let n = c.part_len.result in
    let any = list_any (bytes_eq c.args.part.now) in
    let place : n ≡ prefix_len in_part (drop at bs) = c.part_len.ensures.place ∙ ap (prefix_len in_part) (take_rest bs at) in
    let within : n ≤ length (drop at bs) = subst (λ r. n ≤ length r) (take_rest bs at) c.part_len.ensures.within in
    sym (c.loop-at.invariant ∙ ap any (run_at bs at n place within (omega arith)) ∙ ap (λ b. b || any (parts (drop (at + n + 1) bs))) (sym c.eq.ensures ∙ c.if-eq.true))

pub loop-at-preserved : goal.loop-at-preserved
loop-at-preserved c =
    let bs = c.args.bytes.now in
    let at = c.loop-at.at in
    let n = c.part_len.result in
    let any = list_any (bytes_eq c.args.part.now) in
    let place : n ≡ prefix_len in_part (drop at bs) = c.part_len.ensures.place ∙ ap (prefix_len in_part) (take_rest bs at) in
    let within : n ≤ length (drop at bs) = subst (λ r. n ≤ length r) (take_rest bs at) c.part_len.ensures.within in
    elim c.else-at-end.branch [
      | else-at-end-via-then-at-end+else-eq w ↦
          c.loop-at.invariant ∙ ap any (run_at bs at n place within (omega arith)) ∙ ap (λ b. b || any (parts (drop (at + n + 1) bs))) (sym w.eq.ensures ∙ w.if-eq.false)
      | else-at-end-via-else-at-end w ↦
          c.loop-at.invariant ∙ ap any (no_run_at bs at n place (omega arith))
    ]

pub returns : goal.returns
returns c = sym (c.loop-at.invariant ∙ ap (list_any (bytes_eq c.args.part.now)) (at_drop_all parts c.args.bytes.now c.loop-at.at c.loop-at-test.false))
