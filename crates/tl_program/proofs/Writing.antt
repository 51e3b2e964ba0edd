-- What is written in two goes.
use Rattle.std.proofs.Common.{ℕ, ◌+◌, List, ◌++◌, Option, None, Some, Result, Ok, Err, OnErr, length, take, drop, append_assoc, length-drop, ◌∙◌, ap, sym}
use Rattle.std.proofs.lemmas.List.{take_rest}
use Rattle.std.proofs.Math.Seq.{take-add}
use Rattle.std.proofs.Math.Seq.{take-length}
use Rattle.std.specs.Io.KnownBytes.{Appends, Keeps}
use Rattle.tl_program.specs.Output.{AppendsBeginning}

-- the first n bytes, and then the next m
pub Appends-take : (a b c : Option (List ℕ)) (bs : List ℕ) (n m : ℕ) → Appends a b (take n bs) → Appends b c (take m (drop n bs)) → Appends a c (take (n + m) bs)
Appends-take None b c bs n m p q = tt
Appends-take (Some x) None c bs n m p q = elim p [ ]
Appends-take (Some x) (Some y) None bs n m p q = elim q [ ]
Appends-take (Some x) (Some y) (Some z) bs n m p q = rw (take-add, ← append_assoc, ← p) q

-- what was written is kept, so it is a beginning
pub Appends-kept : (a b c : Option (List ℕ)) (bs : List ℕ) → Appends a b bs → Keeps b c → AppendsBeginning a c bs
Appends-kept None b c bs p q = (0, tt)
Appends-kept (Some x) None c bs p q = elim p [ ]
Appends-kept (Some x) (Some y) None bs p q = elim q [ ]
Appends-kept (Some x) (Some y) (Some z) bs p q = (length bs, q ∙ (p ∙ ap (λ v. x ++ v) (sym (take-length bs))))

-- and where a flush failed
pub Appends-kept_after : (a b c : Option (List ℕ)) (bs : List ℕ) {T E : Type 0} (r : Result T E) → Appends a b bs → Keeps b c → OnErr r (AppendsBeginning a c bs)
Appends-kept_after a b c bs (Ok x) p q = tt
Appends-kept_after a b c bs (Err e) p q = Appends-kept a b c bs p q

-- what is written in goes
pub ruleset written = (Appends-take, take_rest, length-drop)

-- what is written and then flushed
pub ruleset flushed = (Appends-kept_after)
