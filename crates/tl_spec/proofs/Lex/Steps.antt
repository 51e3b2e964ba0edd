-- The equations of the attributes and of the tokens, in the form in which a reader meets them.
use Rattle.std.proofs.Common.{◌≡◌, ℕ, ◌-◌, ◌<◌, true, false, List, [], ◌∷◌, length, Option, Some, None, refl, ap, arith, unwrap_or}
use Rattle.std.specs.Prelude.{option_map}
use Rattle.tl_spec.specs.Lex.Attribute.{attribute, attributes, next_attribute, skip_blanks}
use Rattle.tl_spec.specs.Lex.ByteClass.{is_closing}
use Rattle.tl_spec.specs.Lex.Runs.{read_many}
use Rattle.tl_spec.specs.Lex.Token.{PlacedToken, Token, next_placed, next_token}
use Rattle.tl_spec.proofs.Lex.Many.{Shrinks, many-none, many-some}
use Rattle.tl_spec.proofs.Lex.Shrinks.{next_attribute-shrinks, next_token-shrinks}

pub attributes-end : attributes [] ≡ ([], [])
attributes-end = refl

pub attributes-closing : (b : ℕ) (s : List ℕ) → is_closing b ≡ true → attributes (b ∷ s) ≡ ([], b ∷ s)
attributes-closing b s e = many-none next_attribute (b ∷ s) (rw e refl)

pub attributes-more : (b : ℕ) (s : List ℕ) → is_closing b ≡ false →
    attributes (b ∷ s) ≡ (let a = attribute (b ∷ s) in let more = attributes (skip_blanks a.1) in (a.0 ∷ more.0, more.1))
attributes-more b s e =
    let a = attribute (b ∷ s) in
    many-some next_attribute next_attribute-shrinks (b ∷ s) (a.0, skip_blanks a.1) (rw e refl) (length (b ∷ s)) (length (skip_blanks a.1)) (omega arith) (omega arith)

pub next_placed-shrinks : (n : ℕ) → Shrinks (next_placed n)
next_placed-shrinks n s found e =
    let step : (r : Option (Token × List ℕ)) → next_token s ≡ r → option_map (λ found. (record { token = found.0; from = n - length s; to = n - length found.1 }, found.1)) r ≡ Some found → length found.1 < length s = elim [
      | None ↦ λ _ is. cc
      | Some got ↦ λ is same. let less = next_token-shrinks s got is in
          let rest : got.1 ≡ found.1 = ap (λ (o : Option (PlacedToken × List ℕ)). (unwrap_or o found).1) same in rw (← rest) less
    ] in
    step (next_token s) refl e

-- the tokens of a text of n bytes from s on
abbrev pub tokens_from : ℕ → List ℕ → List PlacedToken
tokens_from n s = (read_many (next_placed n) (length s) s).0

pub tokens_next : (n : ℕ) (s : List ℕ) (k : Token) (rest : List ℕ) → next_token s ≡ Some (k, rest) →
    tokens_from n s ≡ record { token = k; from = n - length s; to = n - length rest } ∷ tokens_from n rest
tokens_next n s k rest e =
    ap (λ (found : List PlacedToken × List ℕ). found.0)
    (many-some (next_placed n) (next_placed-shrinks n) s (record { token = k; from = n - length s; to = n - length rest }, rest) (ap (option_map (λ found. (record { token = found.0; from = n - length s; to = n - length found.1 }, found.1))) e) (length s) (length rest) (omega arith) (omega arith))

pub token_less : (s : List ℕ) (k : Token) (rest : List ℕ) → next_token s ≡ Some (k, rest) → length rest < length s
token_less s k rest e = next_token-shrinks s (k, rest) e
