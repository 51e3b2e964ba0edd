-- Which bytes a simple selector can't begin with, and the items that are read where it stands.
use Rattle.std.proofs.Common.{◌≡◌, ℕ, List, [], ◌∷◌, length, Bool, true, false, not, ◌&&◌, ◌==◌, Option, Some, None, Ok, Err, refl, ap, subst, ◌∙◌, unwrap_or}
use Rattle.std.specs.Str.{byte}
use Rattle.tl_spec.proofs.Lex.Grammar.{if_yes, if_no, differs}
use Rattle.tl_css.specs.declared.text.role.Role.{Role}
use Rattle.tl_css.specs.declared.text.role.Combinator.{Combinator}
use Rattle.tl_css.specs.declared.text.role.Combinator.TheVariants.{Descendant}
use Rattle.tl_css.specs.declared.text.role.Before.{Before}
use Rattle.tl_css.specs.declared.text.role.Before.TheVariants.{Touching, After, Begin}
use Rattle.tl_css.specs.Read.{Read, ◌>>=◌}
use Rattle.tl_css.specs.PseudoClass.{Simple}
use Rattle.tl_css.specs.Item.{Item, End, Comma, Part, part, first_at, combinator_of, combinator_by, combinator_at, leading_at, is_relative, is_top, begin_at, part_at, next_by, next_at}
use Rattle.tl_css.specs.Grammar.{CombinatorStands, marked, spaced, LeadStands, lead, no_lead}
use Rattle.tl_css.specs.SimpleGrammar.{GapStands}
use Rattle.tl_css.proofs.Leaf.{simple_by, SimpleReads}

pub no_error : {A B : Type 0} {w : B} {x : A} → Err w ≡ Ok x → ⊥
no_error h = cc

-- no simple selector begins with one of these
pub no_comma : (first : Bool) (t : List ℕ) (p : Simple × List ℕ) → simple_by first (byte "," ∷ t) ≡ Ok p → ⊥
no_comma true t p h = no_error h
no_comma false t p h = no_error h

pub no_close : (first : Bool) (t : List ℕ) (p : Simple × List ℕ) → simple_by first (byte ")" ∷ t) ≡ Ok p → ⊥
no_close true t p h = no_error h
no_close false t p h = no_error h

no_child : (first : Bool) (t : List ℕ) (p : Simple × List ℕ) → simple_by first (byte ">" ∷ t) ≡ Ok p → ⊥
no_child true t p h = no_error h
no_child false t p h = no_error h

no_next : (first : Bool) (t : List ℕ) (p : Simple × List ℕ) → simple_by first (byte "+" ∷ t) ≡ Ok p → ⊥
no_next true t p h = no_error h
no_next false t p h = no_error h

no_later : (first : Bool) (t : List ℕ) (p : Simple × List ℕ) → simple_by first (byte "~" ∷ t) ≡ Ok p → ⊥
no_later true t p h = no_error h
no_later false t p h = no_error h

-- the byte that it begins with isn't this one
other : (first : Bool) (b c : ℕ) (t : List ℕ) (p : Simple × List ℕ) → simple_by first (b ∷ t) ≡ Ok p
    → (simple_by first (c ∷ t) ≡ Ok p → ⊥) → (b == c) ≡ false
other first b c t p h never = differs b c (λ (e : b ≡ c). never (subst (λ (b : ℕ). simple_by first (b ∷ t) ≡ Ok p) e h))

pub no_combinator : (first : Bool) (b : ℕ) (t : List ℕ) (p : Simple × List ℕ) → simple_by first (b ∷ t) ≡ Ok p → combinator_of b ≡ None
no_combinator first b t p h =
    if_no _ _ _ (other first b (byte ">") t p h (no_child first t p))
    ∙ (if_no _ _ _ (other first b (byte "+") t p h (no_next first t p))
    ∙ if_no _ _ _ (other first b (byte "~") t p h (no_later first t p)))

pub combinator_none : (first : Bool) (s : List ℕ) (p : Simple × List ℕ) → simple_by first s ≡ Ok p → combinator_at s ≡ Ok (None, s)
combinator_none first [] p h = refl
combinator_none first (b ∷ t) p h = ap (λ (o : Option Combinator). combinator_by (b ∷ t) o t) (no_combinator first b t p h)

-- what stands next, where neither a comma nor a bracket does
next_other : (role : Role) (left b : ℕ) (w : Bool) (t : List ℕ) → (b == byte ",") ≡ false → (b == byte ")") ≡ false
    → next_by role left w (b ∷ t) ≡ (combinator_at (b ∷ t) >>= λ combinator. part_at w combinator.0 combinator.1)
next_other role left b w t comma close =
    if_no _ _ _ comma ∙ if_no _ _ _ (ap (λ (v : Bool). v && not (is_top role)) close)

no_empty : (first : Bool) (p : Simple × List ℕ) → simple_by first [] ≡ Ok p → ⊥
no_empty true p h = no_error h
no_empty false p h = no_error h

next_part : (role : Role) (left : ℕ) (first w : Bool) (s : List ℕ) (p : Simple × List ℕ) → simple_by first s ≡ Ok p
    → next_by role left w s ≡ part_at w None s
next_part role left first w [] p h = absurd (no_empty first p h)
next_part role left first w (b ∷ t) p h =
    next_other role left b w t (other first b (byte ",") t p h (no_comma first t p)) (other first b (byte ")") t p h (no_close first t p))
    ∙ ap (λ (r : Read (Option Combinator)). r >>= λ combinator. part_at w combinator.0 combinator.1) (combinator_none first (b ∷ t) p h)

part_is : (before : Before) (first : Bool) (s k : List ℕ) (x : Simple) → simple_by first s ≡ Ok (x, k)
    → part before s (simple_by first s) ≡ Ok (Part before (length s) x, k)
part_is before first s k x h = ap (λ (r : Read Simple). part before s r) h

after_gap : (role : Role) (left : ℕ) (s n : List ℕ) (w : Bool) → GapStands s w n → next_at role left s ≡ next_by role left w n
after_gap role left s n w gap = ap (λ (r : Read Bool). r >>= λ gap. next_by role left gap.0 gap.1) gap

-- a simple selector right after another
pub touching : (role : Role) (left : ℕ) (s n k : List ℕ) (x : Simple) → GapStands s false n → SimpleReads false n x k
    → next_at role left s ≡ Ok (Part Touching (length n) x, k)
touching role left s n k x gap own =
    after_gap role left s n false gap ∙ (next_part role left false false n (x, k) own ∙ part_is Touching false n k x own)

-- a combinator's byte is one of three
IsMark : ℕ → Combinator → Type 0
IsMark b c = (w : Bool) (role : Role) (left : ℕ) (t : List ℕ) → next_by role left w (b ∷ t)
    ≡ (combinator_by (b ∷ t) (Some c) t >>= λ combinator. part_at w combinator.0 combinator.1)

mark_of : (b : ℕ) (c : Combinator) → combinator_of b ≡ Some c → (b == byte ",") ≡ false → (b == byte ")") ≡ false → IsMark b c
unfolding IsMark
mark_of b c is comma close = λ w role left t.
    next_other role left b w t comma close
    ∙ ap (λ (o : Option Combinator). combinator_by (b ∷ t) o t >>= λ combinator. part_at w combinator.0 combinator.1) is

no_mark : {c : Combinator} → None ≡ Some c → ⊥
no_mark h = cc

is_mark : (b : ℕ) (c : Combinator) → combinator_of b ≡ Some c → IsMark b c
is_mark b c is = mark_of b c is
    (differs b (byte ",") (λ (e : b ≡ byte ","). no_mark (subst (λ (b : ℕ). combinator_of b ≡ Some c) e is)))
    (differs b (byte ")") (λ (e : b ≡ byte ")"). no_mark (subst (λ (b : ℕ). combinator_of b ≡ Some c) e is)))

pub part_marked : (w : Bool) (c : Combinator) (s : List ℕ) → part_at w (Some c) s ≡ part (After c) s (first_at s)
part_marked true c s = refl
part_marked false c s = refl

abbrev combined : Combinator → Read Bool → Read (Option Combinator)
combined c r = r >>= λ gap. Ok (Some c, gap.1)

abbrev marked_part : Bool → Combinator → Read Bool → Read Item
marked_part w c r = combined c r >>= λ combinator. part_at w combinator.0 combinator.1

-- a simple selector after a combinator
pub joined : (role : Role) (left : ℕ) (s n k : List ℕ) (c : Combinator) (x : Simple) → CombinatorStands s c n → SimpleReads true n x k
    → next_at role left s ≡ Ok (Part (After c) (length n) x, k)
unfolding IsMark
joined role left s n k c x (marked {m = m} {b = b} {v = v} gap is after) own =
    after_gap role left s (b ∷ m) v gap
    ∙ (is_mark b c is v role left m
    ∙ (ap (λ (r : Read Bool). marked_part v c r) after
    ∙ (part_marked v c n ∙ part_is (After c) true n k x own)))
joined role left s n k c x (spaced gap) own =
    after_gap role left s n true gap ∙ (next_part role left true true n (x, k) own ∙ part_is (After Descendant) true n k x own)

-- the first one of a selector that isn't relative
pub begun_plain : (role : Role) (s n k : List ℕ) (w : Bool) (x : Simple) → is_relative role ≡ false → GapStands s w n → SimpleReads true n x k
    → begin_at role s ≡ Ok (Part (Begin Descendant) (length n) x, k)
begun_plain role s n k w x plain gap own =
    ap (λ (r : Read Bool). r >>= λ gap. leading_at role gap.1 >>= λ combinator. part (Begin combinator.0) combinator.1 (first_at combinator.1)) gap
    ∙ (ap (λ (r : Read Combinator). r >>= λ combinator. part (Begin combinator.0) combinator.1 (first_at combinator.1)) (if_no _ _ _ plain)
    ∙ part_is (Begin Descendant) true n k x own)

unwrapped : Read (Option Combinator) → Read Combinator
unwrapped r = r >>= λ combinator. Ok (unwrap_or combinator.0 Descendant, combinator.1)

leading : (role : Role) (s : List ℕ) (c : Combinator) (n : List ℕ) → is_relative role ≡ true → unwrapped (combinator_at s) ≡ Ok (c, n)
    → leading_at role s ≡ Ok (c, n)
unfolding unwrapped
leading role s c n relative is = if_yes _ _ _ relative ∙ is

after_lead : (role : Role) (s m n k : List ℕ) (w : Bool) (c : Combinator) (x : Simple) → GapStands s w m → leading_at role m ≡ Ok (c, n)
    → SimpleReads true n x k → begin_at role s ≡ Ok (Part (Begin c) (length n) x, k)
after_lead role s m n k w c x gap leads own =
    ap (λ (r : Read Bool). r >>= λ gap. leading_at role gap.1 >>= λ combinator. part (Begin combinator.0) combinator.1 (first_at combinator.1)) gap
    ∙ (ap (λ (r : Read Combinator). r >>= λ combinator. part (Begin combinator.0) combinator.1 (first_at combinator.1)) leads
    ∙ part_is (Begin c) true n k x own)

combinator_some : (b : ℕ) (t n : List ℕ) (c : Combinator) (w : Bool) → combinator_of b ≡ Some c → GapStands t w n
    → combinator_at (b ∷ t) ≡ Ok (Some c, n)
combinator_some b t n c w is gap =
    ap (λ (o : Option Combinator). combinator_by (b ∷ t) o t) is ∙ ap (λ (r : Read Bool). combined c r) gap

-- the first one of a relative selector
pub begun_relative : (role : Role) (s n k : List ℕ) (c : Combinator) (x : Simple) → is_relative role ≡ true → LeadStands s c n → SimpleReads true n x k
    → begin_at role s ≡ Ok (Part (Begin c) (length n) x, k)
unfolding unwrapped
begun_relative role s n k c x relative (lead {m = m} {b = b} {v = v} {w = w} gap is after) own =
    after_lead role s (b ∷ m) n k v c x gap (leading role (b ∷ m) c n relative (ap unwrapped (combinator_some b m n c w is after))) own
begun_relative role s n k c x relative (no_lead {w = w} gap) own =
    after_lead role s n n k w Descendant x gap (leading role n Descendant n relative (ap unwrapped (combinator_none true n (x, k) own))) own

pub comma : (role : Role) (left : ℕ) (s n : List ℕ) (w : Bool) → GapStands s w (byte "," ∷ n) → next_at role left s ≡ Ok (Comma, n)
comma role left s n w gap = after_gap role left s (byte "," ∷ n) w gap

pub closed : (role : Role) (left : ℕ) (s n : List ℕ) (w : Bool) → is_top role ≡ false → GapStands s w (byte ")" ∷ n) → next_at role left s ≡ Ok (End, n)
closed role left s n w inner gap =
    after_gap role left s (byte ")" ∷ n) w gap ∙ if_yes _ _ _ (ap (λ (v : Bool). not v) inner)

pub ended : (left : ℕ) (role : Role) (s : List ℕ) (w : Bool) → is_top role ≡ true → GapStands s w [] → next_at role left s ≡ Ok (End, [])
ended left role s w top gap = after_gap role left s [] w gap ∙ if_yes _ _ _ top
