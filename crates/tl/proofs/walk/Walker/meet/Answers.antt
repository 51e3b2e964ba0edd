use Rattle.tl_table.specs.declared.errors.TreeError.TheVariants.{OutOfMemory}
use Rattle.std.proofs.Common.{rules, ◌≡◌, ◌∷◌, [], true, false, true≢false, Some, map, ap, subst, sym, ◌∙◌}
use Rattle.std.specs.List.{slice_get}
use Rattle.std.proofs.lemmas.Option.{slice_get_within}
use Rattle.tl_spec.specs.Tree.Document.{Tag, Raw, Comment}
use Rattle.tl_spec.specs.Walk.{meets, stands_on}
use Rattle.tl.specs.View.{node_view, tag_view}
use Rattle.tl.specs.Walker.{enters, path_from, path_of, events_to_come, remaining, remaining_at}
use Rattle.tl.specs.Remaining.{FailsAt, step}
use Rattle.tl.specs.declared.walk.Entered.{Entered}
use Rattle.tl.proofs.Frames.{shown_at, shown_past, left-dangling, left-cycle, left-text, left-comment, left-passed, left-entered}
use Rattle.tl.proofs.Remaining.{next_at, fails-dangling, fails-cycle, fails-memory, step-text, step-comment, step-tag}
use Rattle.tl.proofs.walk.Walker.meet.Goals as goal
use Rattle.tl.proofs.walk.Walker.meet.Goals.{then-enters+in_ok-enter-in-Tag, else-enters}

pub returns-in_default-clause-steps : goal.returns-in_default-clause-steps
returns-in_default-clause-steps c =
    let w = c.args.self.now in
    (events_to_come w, left-dangling (enters w.entered) (map node_view w.nodes.now) w.rest.now w.frames.items c.args.handle (shown_past w.nodes.now c.args.handle c.in_default.ensures))

pub stands_on_path-requires-clause-in_table : goal.stands_on_path-requires-clause-in_table
stands_on_path-requires-clause-in_table c = slice_get_within c.args.self.now.nodes.now c.args.handle c.in-Some.node.now (sym c.in-Some.ensures)

pub returns-then-stands-clause-steps : goal.returns-then-stands-clause-steps
returns-then-stands-clause-steps c =
    let w = c.args.self.now in
    let h = c.args.handle in
    let on : stands_on (path_of w) h ≡ true = sym (ap (λ fs. stands_on (path_from [] fs) h) c.as_slice.ensures.value) ∙ sym c.in_ok-stands.ensures.says ∙ c.if-stands.true in
    (events_to_come w, left-cycle (enters w.entered) (map node_view w.nodes.now) w.rest.now w.frames.items h (node_view c.in-Some.node.now) (shown_at w.nodes.now h c.in-Some.node.now c.in-Some.ensures) on)

pub enter-requires-clause-in_table : goal.enter-requires-clause-in_table
enter-requires-clause-in_table c = slice_get_within c.args.self.now.nodes.now c.args.handle c.in-Some.node.now (sym c.in-Some.ensures)

pub returns-after-enters-clause-steps : goal.returns-after-enters-clause-steps
returns-after-enters-clause-steps c =
    let w = c.args.self.now in
    let h = c.args.handle in
    let own = tag_view c.in-Tag.tag in
    let off : stands_on (path_of w) h ≡ false = sym (ap (λ fs. stands_on (path_from [] fs) h) c.as_slice.ensures.value) ∙ sym c.in_ok-stands.ensures.says ∙ c.if-stands.false in
    let is : slice_get (map node_view w.nodes.now) h ≡ Some (Tag own) = shown_at w.nodes.now h c.in-Some.node.now c.in-Some.ensures ∙ ap (λ n. Some (node_view n)) c.in-Tag.is in
    rw c.in-Tag.is (elim c.if-enters.branch [
      | then-enters+in_ok-enter-in-Tag y ↦
          left-entered (enters w.entered) (map node_view w.nodes.now) w.rest.now w.frames.items h own is off (sym c.enters.ensures ∙ y.if-enters.true)
          ∙ ap (λ es. meets h (Tag own) ∷ es) (sym y.in_ok-enter-in-Tag.ensures.left ∙ ap events_to_come (sym y.self-is))
      | else-enters y ↦
          left-passed (enters w.entered) (map node_view w.nodes.now) w.rest.now w.frames.items h own is off (sym c.enters.ensures ∙ y.if-enters.false)
          ∙ ap (λ v. meets h (Tag own) ∷ events_to_come v) (sym y.self-is)
    ])

pub returns-in-Raw-clause-steps : goal.returns-in-Raw-clause-steps
returns-in-Raw-clause-steps c =
    let w = c.args.self.now in
    let h = c.args.handle in
    let off : stands_on (path_of w) h ≡ false = sym (ap (λ fs. stands_on (path_from [] fs) h) c.as_slice.ensures.value) ∙ sym c.in_ok-stands.ensures.says ∙ c.if-stands.false in
    let is : slice_get (map node_view w.nodes.now) h ≡ Some (Raw c.in-Raw.field-0.list) = shown_at w.nodes.now h c.in-Some.node.now c.in-Some.ensures ∙ ap (λ n. Some (node_view n)) c.in-Raw.is in
    rw c.in-Raw.is (left-text (enters w.entered) (map node_view w.nodes.now) w.rest.now w.frames.items h c.in-Raw.field-0.list is off)

pub returns-in-Comment-clause-steps : goal.returns-in-Comment-clause-steps
returns-in-Comment-clause-steps c =
    let w = c.args.self.now in
    let h = c.args.handle in
    let off : stands_on (path_of w) h ≡ false = sym (ap (λ fs. stands_on (path_from [] fs) h) c.as_slice.ensures.value) ∙ sym c.in_ok-stands.ensures.says ∙ c.if-stands.false in
    let is : slice_get (map node_view w.nodes.now) h ≡ Some (Comment c.in-Comment.field-0.list) = shown_at w.nodes.now h c.in-Some.node.now c.in-Some.ensures ∙ ap (λ n. Some (node_view n)) c.in-Comment.is in
    rw c.in-Comment.is (left-comment (enters w.entered) (map node_view w.nodes.now) w.rest.now w.frames.items h c.in-Comment.field-0.list is off)

-- the same in the words of what is left

pub returns-in_default-clause-steps_on : goal.returns-in_default-clause-steps_on
returns-in_default-clause-steps_on c = λ all.
    let w = c.args.self.now in
    fails-dangling (map node_view w.nodes.now) w.rest.now w.frames.items c.args.handle (shown_past w.nodes.now c.args.handle c.in_default.ensures)

pub returns-then-stands-clause-steps_on : goal.returns-then-stands-clause-steps_on
returns-then-stands-clause-steps_on c = λ all.
    let w = c.args.self.now in
    let h = c.args.handle in
    let on : stands_on (path_of w) h ≡ true = sym (ap (λ fs. stands_on (path_from [] fs) h) c.as_slice.ensures.value) ∙ sym c.in_ok-stands.ensures.says ∙ c.if-stands.true in
    fails-cycle (map node_view w.nodes.now) w.rest.now w.frames.items h (node_view c.in-Some.node.now) (shown_at w.nodes.now h c.in-Some.node.now c.in-Some.ensures) on

pub returns-after-enters-clause-steps_on : goal.returns-after-enters-clause-steps_on
returns-after-enters-clause-steps_on c = λ all.
    let w = c.args.self.now in
    let h = c.args.handle in
    let own = tag_view c.in-Tag.tag in
    let off : stands_on (path_of w) h ≡ false = sym (ap (λ fs. stands_on (path_from [] fs) h) c.as_slice.ensures.value) ∙ sym c.in_ok-stands.ensures.says ∙ c.if-stands.false in
    let is : slice_get (map node_view w.nodes.now) h ≡ Some (Tag own) = shown_at w.nodes.now h c.in-Some.node.now c.in-Some.ensures ∙ ap (λ n. Some (node_view n)) c.in-Tag.is in
    rw c.in-Tag.is (elim c.if-enters.branch [
      | then-enters+in_ok-enter-in-Tag y ↦
          step-tag (map node_view w.nodes.now) w.rest.now w.frames.items h own is off
          ∙ ap (next_at (meets h (Tag own))) (sym y.in_ok-enter-in-Tag.ensures.remaining ∙ ap remaining (sym y.self-is))
      | else-enters y ↦
          absurd (true≢false (ap (λ (x : Entered). enters x c.in-Tag.tag.name.list) (sym all) ∙ sym c.enters.ensures ∙ y.if-enters.false))
    ])

-- want of memory hides the event of a handle that is left

pub returns-in_err-stands-clause-steps_on : goal.returns-in_err-stands-clause-steps_on
returns-in_err-stands-clause-steps_on c = λ all.
    let w = c.args.self.now in
    let fails : FailsAt (step (remaining_at w (c.args.handle ∷ w.rest.now))) OutOfMemory = fails-memory (map node_view w.nodes.now) w.rest.now w.frames.items c.args.handle in
    search (rules, fails)

pub returns-in_err-enter-in-Tag-clause-steps_on : goal.returns-in_err-enter-in-Tag-clause-steps_on
returns-in_err-enter-in-Tag-clause-steps_on c = λ all.
    let w = c.args.self.now in
    let fails : FailsAt (step (remaining_at w (c.args.handle ∷ w.rest.now))) OutOfMemory = fails-memory (map node_view w.nodes.now) w.rest.now w.frames.items c.args.handle in
    search (rules, fails)

pub returns-in-Raw-clause-steps_on : goal.returns-in-Raw-clause-steps_on
returns-in-Raw-clause-steps_on c = λ all.
    let w = c.args.self.now in
    let h = c.args.handle in
    let off : stands_on (path_of w) h ≡ false = sym (ap (λ fs. stands_on (path_from [] fs) h) c.as_slice.ensures.value) ∙ sym c.in_ok-stands.ensures.says ∙ c.if-stands.false in
    let is : slice_get (map node_view w.nodes.now) h ≡ Some (Raw c.in-Raw.field-0.list) = shown_at w.nodes.now h c.in-Some.node.now c.in-Some.ensures ∙ ap (λ n. Some (node_view n)) c.in-Raw.is in
    rw c.in-Raw.is (step-text (map node_view w.nodes.now) w.rest.now w.frames.items h c.in-Raw.field-0.list is off)

pub returns-in-Comment-clause-steps_on : goal.returns-in-Comment-clause-steps_on
returns-in-Comment-clause-steps_on c = λ all.
    let w = c.args.self.now in
    let h = c.args.handle in
    let off : stands_on (path_of w) h ≡ false = sym (ap (λ fs. stands_on (path_from [] fs) h) c.as_slice.ensures.value) ∙ sym c.in_ok-stands.ensures.says ∙ c.if-stands.false in
    let is : slice_get (map node_view w.nodes.now) h ≡ Some (Comment c.in-Comment.field-0.list) = shown_at w.nodes.now h c.in-Some.node.now c.in-Some.ensures ∙ ap (λ n. Some (node_view n)) c.in-Comment.is in
    rw c.in-Comment.is (step-comment (map node_view w.nodes.now) w.rest.now w.frames.items h c.in-Comment.field-0.list is off)
