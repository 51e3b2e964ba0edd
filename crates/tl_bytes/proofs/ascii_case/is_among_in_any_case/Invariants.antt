use Rattle.std.proofs.Common.{◌≡◌, drop}
use Rattle.tl_spec.specs.Lex.ByteClass.{is_among_in_any_case}
use Rattle.tl_bytes.proofs.Lent.{words_of}
use Rattle.tl_bytes.proofs.ascii_case.is_among_in_any_case.Given as goal

-- no word so far is this one
abbrev pub invariant-loop-own : goal.invariant-loop-own
invariant-loop-own l = is_among_in_any_case (words_of l.words) l.word ≡ is_among_in_any_case (words_of (drop l.own-index l.words)) l.word
