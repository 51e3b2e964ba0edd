-- The tokens of a text are the ones that stand in it in order.
use Rattle.std.proofs.Common.{◌≡◌, ℕ, zero, suc, ◌+◌, ◌-◌, ◌<◌, ◌≤◌, List, [], ◌∷◌, length, drop, Option, Some, None, refl, ap, sym, subst, ◌∙◌, arith, length-drop, drop_of_length-le, ◌↔◌}
use Rattle.std.specs.Prelude.{option_map}
use Rattle.std.proofs.lemmas.List.{drop-drop}
use Rattle.tl_spec.specs.Lex.Runs.{read_many}
use Rattle.tl_spec.specs.Lex.Token.{PlacedToken, Token, next_placed, next_token, tokens}
use Rattle.tl_spec.specs.Lex.Grammar.{StandFrom}
use Rattle.tl_spec.proofs.Lex.Grammar.{token-is, token-there}
use Rattle.tl_spec.proofs.Lex.Many.{many_more}
use Rattle.tl_spec.proofs.Lex.Steps.{token_less, tokens_from, tokens_next}
use Rattle.tl_spec.proofs.Lex.Tails.{next_token-tail}

pub place : (t : List ℕ) (i : ℕ) → i ≤ length t → length t - length (drop i t) ≡ i
place t i h = rw length-drop (omega arith)

pub stand-only : (t : List ℕ) (i : ℕ) (ks : List PlacedToken) → i ≤ length t → StandFrom t i ks → ks ≡ tokens_from (length t) (drop i t)
stand-only t i [] le h = let done : drop i t ≡ [] = drop_of_length-le t (omega arith) in rw done refl
stand-only t i (k ∷ ks) le h =
    let next = tokens_next (length t) (drop i t) k.token (drop k.to t) (token-is h.1.2) in
    let more = stand-only t k.to ks h.1.1 h.2 in
    let from = place t i le in
    let to = place t k.to h.1.1 in
    sym (next ∙ (λ x. record { token = k.token; from = (from ∙ sym h.0) x; to = to x } ∷ sym more x))

pub none-end : (s : List ℕ) → next_token s ≡ None → s ≡ []
none-end [] e = refl
none-end (b ∷ s) e = cc

pub stand-exists : (t : List ℕ) (m i : ℕ) → i ≤ length t → length (drop i t) ≤ m → StandFrom t i (read_many (next_placed (length t)) m (drop i t)).0
stand-exists t zero i le short = let is = length-drop i t in omega arith
stand-exists t (suc m) i le short =
    let n : ℕ = length t in
    let s : List ℕ = drop i t in
    let step : (r : Option (Token × List ℕ)) → next_token s ≡ r →
    StandFrom t i (many_more (next_placed n) m s (option_map {U = PlacedToken × List ℕ} (λ found. (record { token = found.0; from = n - length s; to = n - length found.1 }, found.1)) r)).0 = elim [
      | None ↦ λ e. let is = length-drop i t in let short : length (drop i t) ≡ 0 = ap length (none-end s e) in omega arith
      | Some found ↦ λ e.
          let after = next_token-tail s found e in
          let less = token_less s found.0 found.1 e in
          let is = length-drop i t in
          let rest : found.1 ≡ drop (i + after.0) t = after.2 ∙ drop-drop after.0 i t in
          let len : length found.1 ≡ length t - (i + after.0) = ap length rest ∙ length-drop (i + after.0) t in
          let to : n - length found.1 ≡ i + after.0 = omega (arith, after.1) in
          let whole : found.1 ≡ drop (n - length found.1) t = rest ∙ ap (λ j. drop j t) (sym to) in
          let less_to : i < n - length found.1 = omega (arith, after.1) in
          (place t i le, (less_to, omega arith, token-there s found.0 (drop (n - length found.1) t) (e ∙ ap (λ r. Some (found.0, r)) whole)), subst (λ j. StandFrom t j (read_many (next_placed n) m found.1).0) (sym to) (subst (λ s. StandFrom t (i + after.0) (read_many (next_placed n) m s).0) (sym rest) (stand-exists t m (i + after.0) (omega (arith, after.1)) (rw (← rest) (omega arith)))))
    ] in
    step (next_token s) refl

-- the tokens of t, and no others
pub stand-tokens : (t : List ℕ) (ks : List PlacedToken) → StandFrom t 0 ks ↔ (ks ≡ tokens t)
stand-tokens t ks = (stand-only t 0 ks (omega arith), λ e. subst (StandFrom t 0) (sym e) (stand-exists t (length t) 0 (omega arith) (omega arith)))
