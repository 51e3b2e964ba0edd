-- What is read as an item stands there by the grammar.
use Rattle.std.proofs.Common.{◌≡◌, ℕ, List, [], ◌∷◌, length, Bool, true, false, not, ◌&&◌, ◌==◌, Option, Some, None, Ok, Err, refl, sym, subst, unwrap_or}
use Rattle.std.specs.Prelude.{IfOk}
use Rattle.std.specs.Str.{byte}
use Rattle.std.proofs.lemmas.Bool.{eqb-true}
use Rattle.tl_spec.proofs.Lex.Shrinks.{if_both}
use Rattle.tl_css.specs.declared.text.role.Role.{Role}
use Rattle.tl_css.specs.declared.text.role.Combinator.{Combinator}
use Rattle.tl_css.specs.declared.text.role.Combinator.TheVariants.{Descendant}
use Rattle.tl_css.specs.declared.text.role.Before.TheVariants.{Touching, After, Begin}
use Rattle.tl_css.specs.Read.{Read, ◌>>=◌}
use Rattle.tl_css.specs.Lexical.{gap_at}
use Rattle.tl_css.specs.PseudoClass.{Simple}
use Rattle.tl_css.specs.Item.{Item, End, Comma, Part, part, first_at, simple_at, combinator_of, combinator_by, combinator_at, is_relative, is_top, begin_at, part_at, next_by, next_at}
use Rattle.tl_css.specs.Grammar.{CombinatorStands, marked, spaced, LeadStands, lead, no_lead}
use Rattle.tl_css.specs.SimpleGrammar.{GapStands}
use Rattle.tl_css.proofs.Leaf.{SimpleReads}
use Rattle.tl_css.proofs.Standing.{part_marked}

-- what is read, if it is, and what stands after it, have this property
abbrev pub Reads : {A : Type 0} → (A → List ℕ → Type 0) → Read A → Type 0
Reads P r = IfOk r (λ p. P p.0 p.1)

pub reads_bind : {A B : Type 0} (P : B → List ℕ → Type 0) (r : Read A) (f : A × List ℕ → Read B)
    → ((p : A × List ℕ) → r ≡ Ok p → Reads P (f p)) → Reads P (r >>= f)
reads_bind P (Ok p) f h = h p refl
reads_bind P (Err w) f h = tt

pub reads_then : {A B : Type 0} (Q : A → List ℕ → Type 0) (P : B → List ℕ → Type 0) (r : Read A) (f : A × List ℕ → Read B)
    → Reads Q r → ((p : A × List ℕ) → Q p.0 p.1 → Reads P (f p)) → Reads P (r >>= f)
reads_then Q P (Ok p) f q h = h p q
reads_then Q P (Err w) f q h = tt

reads_twice : {A B C : Type 0} (P : C → List ℕ → Type 0) (r : Read A) (f : A × List ℕ → Read B) (g : B × List ℕ → Read C)
    → ((p : A × List ℕ) → r ≡ Ok p → Reads P (f p >>= g)) → Reads P ((r >>= f) >>= g)
reads_twice P (Ok p) f g h = h p refl
reads_twice P (Err w) f g h = tt

pub data NextItem : Role → List ℕ → Item → List ℕ → Type 0 where
  touch : {role : Role} {s n rest : List ℕ} {x : Simple} → GapStands s false n → SimpleReads false n x rest
      → NextItem role s (Part Touching (length n) x) rest
  join : {role : Role} {s n rest : List ℕ} {c : Combinator} {x : Simple} → CombinatorStands s c n → SimpleReads true n x rest
      → NextItem role s (Part (After c) (length n) x) rest
  comma_item : {role : Role} {s rest : List ℕ} {w : Bool} → GapStands s w (byte "," ∷ rest) → NextItem role s Comma rest
  close_item : {role : Role} {s rest : List ℕ} {w : Bool} → is_top role ≡ false → GapStands s w (byte ")" ∷ rest) → NextItem role s End rest
  end_item : {role : Role} {s : List ℕ} {w : Bool} → is_top role ≡ true → GapStands s w [] → NextItem role s End []

pub data FirstItem : Role → List ℕ → Item → List ℕ → Type 0 where
  plain_item : {role : Role} {s n rest : List ℕ} {w : Bool} {x : Simple} → is_relative role ≡ false → GapStands s w n → SimpleReads true n x rest
      → FirstItem role s (Part (Begin Descendant) (length n) x) rest
  relative_item : {role : Role} {s n rest : List ℕ} {c : Combinator} {x : Simple} → is_relative role ≡ true → LeadStands s c n
      → SimpleReads true n x rest → FirstItem role s (Part (Begin c) (length n) x) rest

both_true : (a b : Bool) → (a && b) ≡ true → (a ≡ true) × (b ≡ true)
both_true true b h = (refl, h)
both_true false b h = absurd (cc)

not_true : (b : Bool) → not b ≡ true → b ≡ false
not_true true h = absurd (cc)
not_true false h = refl

-- a byte is this one
same_gap : (s t : List ℕ) (w : Bool) (b c : ℕ) → (b == c) ≡ true → GapStands s w (b ∷ t) → GapStands s w (c ∷ t)
same_gap s t w b c e gap = subst (λ (b : ℕ). GapStands s w (b ∷ t)) (eqb-true b c e) gap

join_reads : (role : Role) (s n : List ℕ) (c : Combinator) → CombinatorStands s c n → Reads (NextItem role s) (part (After c) n (first_at n))
join_reads role s n c mark = reads_bind (NextItem role s) (first_at n) _ (λ p is. join mark is)

unmarked_reads : (role : Role) (s n : List ℕ) (w : Bool) → GapStands s w n → Reads (NextItem role s) (part_at w None n)
unmarked_reads role s n true gap = join_reads role s n Descendant (spaced gap)
unmarked_reads role s n false gap = reads_bind (NextItem role s) (simple_at n) _ (λ p is. touch gap is)

marked_reads : (role : Role) (s t : List ℕ) (b : ℕ) (w : Bool) (o : Option Combinator) → GapStands s w (b ∷ t) → combinator_of b ≡ o
    → Reads (NextItem role s) (combinator_by (b ∷ t) o t >>= λ combinator. part_at w combinator.0 combinator.1)
marked_reads role s t b w None gap is = unmarked_reads role s (b ∷ t) w gap
marked_reads role s t b w (Some c) gap is = reads_twice (NextItem role s) (gap_at t) _ _
    (λ p after. subst (λ (r : Read Item). Reads (NextItem role s) r) (sym (part_marked w c p.1)) (join_reads role s p.1 c (marked gap is after)))

next_by_reads : (role : Role) (left : ℕ) (s n : List ℕ) (w : Bool) → GapStands s w n → Reads (NextItem role s) (next_by role left w n)
next_by_reads role left s [] w gap = if_both (λ (r : Read Item). Reads (NextItem role s) r) (is_top role) _ _ (λ top. end_item top gap) (λ _. tt)
next_by_reads role left s (b ∷ t) w gap = if_both (λ (r : Read Item). Reads (NextItem role s) r) (b == byte ",") _ _
    (λ e. comma_item (same_gap s t w b (byte ",") e gap))
    (λ _. if_both (λ (r : Read Item). Reads (NextItem role s) r) ((b == byte ")") && not (is_top role)) _ _
    (λ e. let two = both_true (b == byte ")") (not (is_top role)) e in
    close_item (not_true (is_top role) two.1) (same_gap s t w b (byte ")") two.0 gap))
    (λ _. marked_reads role s t b w (combinator_of b) gap refl))

pub next_reads : (role : Role) (left : ℕ) (s : List ℕ) → Reads (NextItem role s) (next_at role left s)
next_reads role left s = reads_bind (NextItem role s) (gap_at s) _ (λ gap is. next_by_reads role left s gap.1 gap.0 is)

unwrapped : Read (Option Combinator) → Read Combinator
unwrapped r = r >>= λ combinator. Ok (unwrap_or combinator.0 Descendant, combinator.1)

lead_by : (s t : List ℕ) (b : ℕ) (w : Bool) (o : Option Combinator) → GapStands s w (b ∷ t) → combinator_of b ≡ o
    → Reads (LeadStands s) (unwrapped (combinator_by (b ∷ t) o t))
unfolding unwrapped
lead_by s t b w None gap is = no_lead gap
lead_by s t b w (Some c) gap is = reads_twice (LeadStands s) (gap_at t) _ _ (λ p after. lead gap is after)

lead_reads : (s m : List ℕ) (w : Bool) → GapStands s w m → Reads (LeadStands s) (unwrapped (combinator_at m))
unfolding unwrapped
lead_reads s [] w gap = no_lead gap
lead_reads s (b ∷ t) w gap = lead_by s t b w (combinator_of b) gap refl

pub first_reads : (role : Role) (s : List ℕ) → Reads (FirstItem role s) (begin_at role s)
unfolding unwrapped
first_reads role s = reads_bind (FirstItem role s) (gap_at s) _
    (λ gap is. if_both (λ (r : Read Combinator). Reads (FirstItem role s) (r >>= λ combinator. part (Begin combinator.0) combinator.1 (first_at combinator.1)))
    (is_relative role) _ _
    (λ relative. reads_then (LeadStands s) (FirstItem role s) (unwrapped (combinator_at gap.1)) _ (lead_reads s gap.1 gap.0 is)
    (λ c mark. reads_bind (FirstItem role s) (first_at c.1) _ (λ p own. relative_item relative mark own)))
    (λ plain. reads_bind (FirstItem role s) (first_at gap.1) _ (λ p own. plain_item plain is own)))
