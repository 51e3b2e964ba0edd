use Rattle.std.proofs.Common.{◌++◌, sym, ap, ◌∙◌, string_bytes}
use Rattle.std.proofs.lemmas.Result.{on_ok_weaker}
use Rattle.std.proofs.lemmas.Str.{IsUtf8-from_ascii, utf8_lossy-IsUtf8}
use Rattle.tl.proofs.walk.print.write_lossy.Goals as goal

pub returns-then-are_few_ascii-clause-ok : goal.returns-then-are_few_ascii-clause-ok
returns-then-are_few_ascii-clause-ok c =
    let b = c.args.bytes.now in
    let same = sym (utf8_lossy-IsUtf8 b (IsUtf8-from_ascii b (c.are_few_ascii.ensures c.if-are_few_ascii.true))) in
    on_ok_weaker c.push_ascii.result (λ h. h ∙ ap (λ x. string_bytes c.args.out.now ++ x) same) c.push_ascii.ensures.ok
