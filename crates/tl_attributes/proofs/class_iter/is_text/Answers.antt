use Rattle.std.proofs.Common.{subst}
use Rattle.std.specs.Bool.{MatchBool}
use Rattle.std.specs.Str.{IsAscii, IsNotAscii}
use Rattle.std.proofs.lemmas.Str.{IsUtf8-from_ascii}
use Rattle.tl_attributes.proofs.ClassParts.{is_text, is_no_text}
use Rattle.tl_attributes.proofs.class_iter.is_text.Goals as goal

pub returns-in-Ok : goal.returns-in-Ok
returns-in-Ok c = is_text c.args.bytes.now c.in-Ok.ensures.cases.1

pub returns-in-Err : goal.returns-in-Err
returns-in-Err c = is_no_text c.args.bytes.now c.in-Err.ensures.cases.0

pub returns-then-is_ascii : goal.returns-then-is_ascii
returns-then-is_ascii c =
    let bytes = c.args.bytes.now in
    let ascii : IsAscii bytes = subst (λ b. MatchBool b (IsAscii bytes) (IsNotAscii bytes)) c.if-is_ascii.true c.is_ascii.ensures.cases in
    is_text bytes (IsUtf8-from_ascii bytes ascii)
