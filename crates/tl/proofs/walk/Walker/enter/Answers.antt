use Rattle.std.proofs.Common.{◌≡◌, ◌∷◌, [], ℕ, List, length, map, refl, ap, sym, subst, ◌∙◌}
use Rattle.tl.specs.Marks.{AreFresh}
use Rattle.tl.specs.View.{node_view}
use Rattle.tl.specs.Walker.{enters, path_from, path_of, events_to_come_below, remaining_below}
use Rattle.tl.proofs.Marks.{kept_more}
use Rattle.tl.proofs.Frames.{path-push, left-pushed}
use Rattle.tl.proofs.Remaining.{remaining-pushed}
use Rattle.tl.proofs.walk.Walker.enter.Goals as goal

pub returns-clause-marked : goal.returns-clause-marked
returns-clause-marked c =
    let w = c.args.self.now in
    let h = c.args.handle in
    let n : ℕ = length w.nodes.now in
    let path : List ℕ = path_of w in
    let longer : path_from [] c.push.new.self.items ≡ h ∷ path = ap (path_from []) c.in-Ok.ensures.items ∙ path-push [] w.frames.items (record { handle = h; tag = c.args.tag; rest = w.rest }) in
    record {
      kept = rw (longer, c.put_mark.ensures) (kept_more n path h w.marks.items c.requires.marked.kept c.requires.may);
      fresh = subst (AreFresh n) (sym longer) (c.requires.in_table, c.requires.off, c.requires.marked.fresh);
    }

pub returns-clause-left : goal.returns-clause-left
returns-clause-left c =
    let w = c.args.self.now in
    let children : c.as_slice-self.result.now ≡ c.args.tag.now.children.items = c.as_slice-self.ensures ∙ ap (λ v. v.items) c.child_handles.ensures in
    ap (events_to_come_below (enters w.entered) (map node_view w.nodes.now) c.push.new.self.items) children
    ∙ left-pushed (enters w.entered) (map node_view w.nodes.now) w.rest.now w.frames.items c.push.new.self.items c.args.handle
    (record { handle = c.args.handle; tag = c.args.tag; rest = w.rest }) c.args.tag.now.children.items c.in-Ok.ensures.items refl refl

pub returns-clause-remaining : goal.returns-clause-remaining
returns-clause-remaining c =
    let w = c.args.self.now in
    let children : c.as_slice-self.result.now ≡ c.args.tag.now.children.items = c.as_slice-self.ensures ∙ ap (λ v. v.items) c.child_handles.ensures in
    ap (remaining_below (map node_view w.nodes.now) c.push.new.self.items) children
    ∙ remaining-pushed (map node_view w.nodes.now) w.rest.now w.frames.items c.push.new.self.items c.args.handle
    (record { handle = c.args.handle; tag = c.args.tag; rest = w.rest }) c.args.tag.now.children.items c.in-Ok.ensures.items refl refl
