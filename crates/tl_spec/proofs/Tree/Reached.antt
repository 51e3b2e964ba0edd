-- The states between the first token of a text and the last.
use Rattle.std.proofs.Common.{◌≡◌, ℕ, ◌+◌, ◌-◌, ◌≤◌, List, [], ◌∷◌, length, drop, Some, refl, sym, ◌∙◌, ap, subst, arith, length-drop}
use Rattle.std.proofs.lemmas.List.{drop-drop}
use Rattle.tl_spec.specs.Lex.Token.{Token, PlacedToken, next_token, tokens}
use Rattle.tl_spec.specs.Lex.Grammar.{IsTokenAt}
use Rattle.tl_spec.specs.Tree.Document.{document}
use Rattle.tl_spec.specs.Tree.Builder.{State, start, step, run, IsReached}
use Rattle.tl_spec.proofs.Lex.Grammar.{token-there}
use Rattle.tl_spec.proofs.Lex.Stand.{stand-tokens}
use Rattle.tl_spec.proofs.Lex.Steps.{token_less}
use Rattle.tl_spec.proofs.Lex.Tails.{next_token-tail}
use Rattle.tl_spec.proofs.Tree.Builder.{AreOpen-start, AreOpen-step, length-step-le, run-html5}
use Rattle.tl_spec.proofs.Tree.BuilderLaw.{run-writes}

-- a token that was found, and what stands after it
pub IsTokenAt-found : (t : List ℕ) (i : ℕ) (token : Token) (rest : List ℕ) → i ≤ length t → next_token (drop i t) ≡ Some (token, rest) →
    IsTokenAt t i token (length t - length rest) × (rest ≡ drop (length t - length rest) t)
IsTokenAt-found t i token rest le e =
    let after = next_token-tail (drop i t) (token, rest) e in
    let less = token_less (drop i t) token rest e in
    let from = length-drop i t in
    let is : rest ≡ drop (i + after.0) t = after.2 ∙ drop-drop after.0 i t in
    let len : length rest ≡ length t - (i + after.0) = ap length is ∙ length-drop (i + after.0) t in
    let to : length t - length rest ≡ i + after.0 = omega (arith, after.1) in
    let same : rest ≡ drop (length t - length rest) t = is ∙ ap (λ j. drop j t) (sym to) in
    ((omega (arith, after.1), omega arith, token-there (drop i t) token (drop (length t - length rest) t) (e ∙ ap (λ (r : List ℕ). Some (token, r)) same)), same)

pub IsReached-start : (t : List ℕ) (s : State) → s ≡ start → IsReached t 0 s
IsReached-start t s e =
    subst (IsReached t 0) (sym e) (record {
      within = omega arith;
      leads_on = λ ks stand. ap (run t start) ((stand-tokens t ks).0 stand);
      are_open = AreOpen-start 0;
      few = omega arith;
    })

pub IsReached-step : (t : List ℕ) (i : ℕ) (s : State) (token : Token) (j : ℕ) → IsReached t i s → IsTokenAt t i token j →
    IsReached t j (step t s (record { token = token; from = i; to = j }))
IsReached-step t i s token j h at =
    let k : PlacedToken = record { token = token; from = i; to = j } in
    record {
      within = at.1;
      leads_on = λ ks stand. h.leads_on (k ∷ ks) (refl, at, stand);
      are_open = AreOpen-step t i s k (omega arith) (omega (arith, at.0)) h.are_open;
      few = omega (arith, at.0, h.few, length-step-le t s k);
    }

-- the same for a state that is known by an equation
pub IsReached-next : (t : List ℕ) (i : ℕ) (s : State) (token : Token) (j : ℕ) (r : State) → IsReached t i s → IsTokenAt t i token j →
    r ≡ step t s (record { token = token; from = i; to = j }) → IsReached t j r
IsReached-next t i s token j r h at e = subst (IsReached t j) (sym e) (IsReached-step t i s token j h at)

pub document-written : (t : List ℕ) → ((run t start (tokens t)).nodes ≡ (document t).nodes) × ((run t start (tokens t)).top ≡ (document t).top) × ((run t start (tokens t)).is_html5 ≡ (document t).is_html5)
document-written t = (ap (λ found. found.0) (run-writes t (tokens t)), ap (λ found. found.1) (run-writes t (tokens t)), run-html5 t start (tokens t))

-- at the end the document is written
pub IsReached-end : (t : List ℕ) (i : ℕ) (s : State) → IsReached t i s → length t ≤ i → (s.nodes ≡ (document t).nodes) × (s.top ≡ (document t).top) × (s.is_html5 ≡ (document t).is_html5)
IsReached-end t i s h past =
    let all = document-written t in
    let same : s ≡ run t start (tokens t) = h.leads_on [] (omega (arith, h.within)) in
    (ap (λ s. s.nodes) same ∙ all.0, ap (λ s. s.top) same ∙ all.1, ap (λ s. s.is_html5) same ∙ all.2)
