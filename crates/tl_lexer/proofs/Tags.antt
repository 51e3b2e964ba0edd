-- What a builder proves with while it takes the attributes of a start tag one at a time.
use Rattle.std.proofs.Common.{◌≡◌, ℕ, List, ◌∷◌, length, drop, Some, fold, refl, sym, ap, ◌∙◌, arith}
use Rattle.tl_spec.specs.Lex.Attribute.{Pair, attributes, next_attribute}
use Rattle.tl_spec.proofs.Lex.Many.{many-some}
use Rattle.tl_spec.proofs.Lex.Shrinks.{next_attribute-shrinks}
use Rattle.tl_lexer.specs.Span.{pair_at}
use Rattle.tl_lexer.specs.declared.span.AttributeSpan.{AttributeSpan}

pub attributes-some : (s : List ℕ) (pair : Pair) (rest : List ℕ) → next_attribute s ≡ Some (pair, rest) → attributes s ≡ (pair ∷ (attributes rest).0, (attributes rest).1)
attributes-some s pair rest e = many-some next_attribute next_attribute-shrinks s (pair, rest) e (length s) (length rest) (omega arith) (omega arith)

-- those from `begin` up to `at` are put into `first`, in order, which has become `now`
pub record ArePut {A : Type 0} (put : A → Pair → A) (t : List ℕ) (begin at : ℕ) (first now : A) : Type 0 where
  pub told : fold put now (attributes (drop at t)).0 ≡ fold put first (attributes (drop begin t)).0
  pub left : (attributes (drop at t)).1 ≡ (attributes (drop begin t)).1

module _ {A : Type 0} (put : A → Pair → A) (t : List ℕ) (begin : ℕ) (first : A) where
  pub put-none : ArePut put t begin begin first first
  put-none = record { told = refl; left = refl }

  pub put-more : (at end : ℕ) (a : AttributeSpan) (now : A) → Some (pair_at t a, drop end t) ≡ next_attribute (drop at t) → ArePut put t begin at first now
      → ArePut put t begin end first (put now (pair_at t a))
  put-more at end a now read h =
      let more = attributes-some (drop at t) (pair_at t a) (drop end t) (sym read) in record {
        told = sym (ap (λ (found : List Pair × List ℕ). fold put now found.0) more) ∙ h.told;
        left = sym (ap (λ (found : List Pair × List ℕ). found.1) more) ∙ h.left;
      }
