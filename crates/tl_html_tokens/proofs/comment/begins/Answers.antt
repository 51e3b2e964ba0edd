use Rattle.std.proofs.Common.{List, ℕ, sym, map, length, take, ◌∙◌, arith}
use Rattle.std.specs.Char.{to_ascii_lowercase}
use Rattle.std.specs.Str.{bytes_eq}
use Rattle.std.proofs.lemmas.Bool.Decides.{same_from_decides}
use Rattle.std.proofs.lemmas.Slice.Eq.{bytes_eq-Decides}
use Rattle.tl_html_tokens.proofs.Words.{begins_is, begins_not}
use Rattle.tl_html_tokens.proofs.comment.begins.Goals as goal

pub returns : goal.returns
returns c =
    let r : List ℕ = map to_ascii_lowercase c.args.read.now in
    let w : List ℕ = map to_ascii_lowercase (take (length c.args.read.now) c.args.word.now) in
    same_from_decides _ (bytes_eq r w) c.eq_ignore_ascii_case.ensures.test (bytes_eq-Decides r w)
    ∙ begins_is c.args.word.now c.args.read.now c.requires

pub returns-then-read-word : goal.returns-then-read-word
returns-then-read-word c = sym (begins_not c.args.word.now c.args.read.now (omega arith))
