use Rattle.std.proofs.Common.{◌≡◌, ◌==◌, ℕ, ◌+◌, false, List, [], ◌∷◌, ◌++◌, drop, get_or, refl, ap, sym, ◌∙◌}
use Rattle.std.proofs.lemmas.Bool.{ne_eqb}
use Rattle.tl_html_tokens.specs.Inner.Machine as machine
use Rattle.tl_html_tokens.proofs.Places.{between, between_more, feed_plain}
use Rattle.tl_html_tokens.proofs.turn.declaration.Goals as goal

pub returns : goal.returns
returns c =
    let t : List ℕ = c.args.page.now in
    let w : ℕ = c.args.word in
    let i : ℕ = c.args.at in
    let b : ℕ = c.args.byte in
    let no : (b == 10) ≡ false = ne_eqb b 10 c.if-byte-eq10.false in
    let raw : b ≡ get_or t i 0 = c.requires.byte ∙ feed_plain (get_or t i 0) (ap (λ x. x == 10) (sym c.requires.byte) ∙ no) in
    let read : between t w (i + 1) ≡ between t w i ++ b ∷ [] = between_more t w i c.requires.order c.requires.within ∙ ap (λ x. between t w i ++ x ∷ []) (sym raw) in
    c.resolve_declaration.ensures
    ∙ ap (λ x. machine.resolve_declaration x b) (c.past_first.ensures ∙ ap (drop 1) (c.between.ensures ∙ read))
    ∙ sym (rw no refl)
