-- What the reader has written, token by token.
use Rattle.std.proofs.Common.{◌≡◌, ℕ, ◌-◌, ◌≤◌, List, length, drop, None, Some, sym, ap, subst, ◌∙◌, arith, length-drop}
use Rattle.tl_spec.specs.Lex.Token.{next_token}
use Rattle.tl_spec.specs.Tree.Document.{document}
use Rattle.tl_spec.specs.Tree.Builder.{State, step, IsReached}
use Rattle.tl_spec.proofs.Tree.Reached.{IsTokenAt-found, IsReached-next, IsReached-end}
use Rattle.tl_spec.proofs.Lex.Stand.{none-end, place}
use Rattle.tl_lexer.specs.TokenMeaning.{meant}
use Rattle.tl_lexer.specs.declared.token.Token.{Token}
use Rattle.tl.specs.Builder.{placed_token, document_of_state}

-- after the next token
pub reached_next : (t : List ℕ) (at to after : ℕ) (token : Token) (s new : State) → Some (meant t token after) ≡ next_token (drop at t) → IsReached t at s
    → drop to t ≡ (meant t token after).1 → to ≤ length t → new ≡ step t s (placed_token t token after at to) → IsReached t to new
reached_next t at to after token s new first h rest within steps =
    let found = meant t token after in
    let j : ℕ = length t - length found.1 in
    let is : j ≡ to = ap (λ (r : List ℕ). length t - length r) (sym rest) ∙ place t to within in
    let there = IsTokenAt-found t at found.0 found.1 h.within (sym first) in
    subst (λ j. IsReached t j new) is
    (IsReached-next t at s found.0 j new h there.0 (steps ∙ ap (λ (j : ℕ). step t s (record { token = found.0; from = at; to = j })) (sym is)))

-- with no next token the text is over, and all is written
pub reached_end : (t : List ℕ) (at : ℕ) (s : State) → None ≡ next_token (drop at t) → IsReached t at s → document_of_state s ≡ document t
reached_end t at s stop h =
    let none = ap length (none-end (drop at t) (sym stop)) in
    let left = length-drop at t in
    let is = IsReached-end t at s h (omega arith) in
    λ x. record { nodes = is.0 x; top = is.1 x; is_html5 = is.2 x }
