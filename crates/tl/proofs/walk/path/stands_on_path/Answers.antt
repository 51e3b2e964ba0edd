use Rattle.std.proofs.Common.{◌≡◌, ◌<◌, [], length, get_or, ap, sym, ◌∙◌, arith}
use Rattle.tl.specs.Marks.{marks_of}
use Rattle.tl.specs.Walker.{path_from}
use Rattle.tl.proofs.Marks.{says_rising, kept_marks, may_follow, marks_within, mark_tells}
use Rattle.tl.proofs.walk.path.stands_on_path.Goals as goal
use Rattle.tl.proofs.walk.path.stands_on_path.Goals.{then-len-eq0+else-is_above+in_ok-marks, else-len-eq0}

pub returns-then-is_above-clause-says : goal.returns-then-is_above-clause-says
returns-then-is_above-clause-says c =
    let none : length c.args.marks.now.items ≡ 0 = omega (arith, c.args.marks.now.ok.0) in
    says_rising c.args.n (path_from [] c.args.frames.now) c.args.marks.now.items c.args.handle c.requires.kept none c.requires.in_table (c.is_above.ensures.0 c.if-is_above.true)

-- made or there before, the marks are those of the path
are_marks : (c : goal.After-get_inner) → c.if-len-eq0.marks.items ≡ marks_of c.args.n (path_from [] c.args.frames.now)
are_marks c = elim c.if-len-eq0.branch [
  | then-len-eq0+else-is_above+in_ok-marks w ↦ ap (λ v. v.items) w.marks-is ∙ w.in_ok-marks.ensures.ok
  | else-len-eq0 w ↦
      let some : 0 < length c.args.marks.now.items = omega (arith, c.args.marks.now.ok.0) in
      ap (λ v. v.items) w.marks-is ∙ kept_marks c.args.n (path_from [] c.args.frames.now) c.args.marks.now.items c.requires.kept some
]

pub index-requires : goal.index-requires
index-requires c =
    let within : c.args.handle < length c.if-len-eq0.marks.items = marks_within c.args.n (path_from [] c.args.frames.now) c.if-len-eq0.marks.items c.args.handle (are_marks c) c.requires.in_table in
    omega (arith, c.if-len-eq0.marks.ok.0)

pub returns-clause-may : goal.returns-clause-may
returns-clause-may c =
    let within : c.args.handle < length c.if-len-eq0.marks.items = marks_within c.args.n (path_from [] c.args.frames.now) c.if-len-eq0.marks.items c.args.handle (are_marks c.before) c.requires.in_table in
    may_follow (path_from [] c.args.frames.now) c.if-len-eq0.marks.items c.args.handle (omega arith)

pub returns-clause-says : goal.returns-clause-says
returns-clause-says c = sym (mark_tells c.args.n (path_from [] c.args.frames.now) c.if-len-eq0.marks.items c.args.handle c.index.result.now (are_marks c.before) (c.index.ensures ∙ ap (λ k. get_or c.if-len-eq0.marks.items k c.index.result.now) c.get_inner.ensures) c.requires.in_table)
