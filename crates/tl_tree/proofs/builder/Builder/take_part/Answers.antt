use Rattle.std.proofs.Common.{List, ap, arith, drop, length, map, sym, ◌∙◌, ◌∷◌, ◌≡◌, ℕ}
use Rattle.tl_dom_spec.specs.Builder.{Builder, a_character}
use Rattle.tl_dom_spec.specs.Dispatcher.{token_done, tokens_done}
use Rattle.tl_tree.proofs.Built.{on-ok-both}
use Rattle.tl_tree.proofs.RunTexts.{part-taken}
use Rattle.tl_tree.specs.Inner.Builders.{Said, builder_of, token_of}
use Rattle.tl_tree.proofs.OnErrors.{on-err}
use Rattle.tl_tree.proofs.builder.Builder.take_part.Goals as goal

pub returns-clause-ok : goal.returns-clause-ok
returns-clause-ok c =
    let b = c.args.self.now in
    let b1 = c.take_token.new.self in
    let b2 = c.take_rest.new.self in
    let first = c.first_byte-first.result in
    let taken : builder_of b1 ≡ token_done (builder_of b) (a_character first) =
    c.in_ok-take_token.ensures.ok
    ∙ ap (λ own. token_done own (a_character first)) c.set_hint.ensures.ok in
    let same : (token_of b1).text ≡ (token_of b).text =
    ap (λ (said : Said). said.text) (c.in_ok-take_token.ensures.token ∙ c.set_hint.ensures.token) in
    on-ok-both c.take_rest.result
    (part-taken (builder_of b) (builder_of b1) (builder_of b2) (token_of b).text (token_of b1).text (token_of b2).text first c.run_len-count.result
    c.first_byte-first.ensures (sym c.if-is_skipped.ensures) taken same c.run_len-count.ensures.same)
    c.take_rest.ensures.ok c.take_rest.ensures.left

-- one character is taken
one-taken : (b b1 b2 : Builder) (text text1 text2 : List ℕ) (c : ℕ) → text ≡ c ∷ drop 1 text → b1 ≡ token_done b (a_character c) → text1 ≡ text → b2 ≡ b1 → text2 ≡ drop 1 text1 → tokens_done b (map a_character text) ≡ tokens_done b2 (map a_character text2)
one-taken b b1 b2 text text1 text2 c e taken same ok left =
    ap (λ own. tokens_done b (map a_character own)) e
    ∙ (ap (λ own. tokens_done own (map a_character (drop 1 text))) (sym taken)
    ∙ (ap (λ own. tokens_done b1 (map a_character (drop 1 own))) (sym same)
    ∙ (ap (λ own. tokens_done own (map a_character (drop 1 text1))) (sym ok)
    ∙ ap (λ own. tokens_done b2 (map a_character own)) (sym left))))

pub skip-requires : goal.skip-requires
skip-requires c =
    let some = c.requires in
    let same = ap (λ (said : Said). length said.text) (c.take_token.ensures.token ∙ c.set_hint.ensures.token) in
    omega arith

pub returns-then-is_skipped-clause-ok : goal.returns-then-is_skipped-clause-ok
returns-then-is_skipped-clause-ok c =
    let b = c.args.self.now in
    let b1 = c.take_token.new.self in
    let b2 = c.skip.new.self in
    let first = c.first_byte-first.result in
    one-taken (builder_of b) (builder_of b1) (builder_of b2) (token_of b).text (token_of b1).text (token_of b2).text first c.first_byte-first.ensures
    (c.in_ok-take_token.ensures.ok ∙ ap (λ own. token_done own (a_character first)) c.set_hint.ensures.ok)
    (ap (λ (said : Said). said.text) (c.take_token.ensures.token ∙ c.set_hint.ensures.token))
    c.skip.ensures.ok c.skip.ensures.left

pub returns-then-is_skipped-clause-page : goal.returns-then-is_skipped-clause-page
returns-then-is_skipped-clause-page c =
    c.skip.ensures.page ∙ ap (λ (said : Said). said.page) (c.take_token.ensures.token ∙ c.set_hint.ensures.token)

pub returns-clause-page : goal.returns-clause-page
returns-clause-page c =
    c.take_rest.ensures.page ∙ ap (λ (said : Said). said.page) (c.take_token.ensures.token ∙ c.set_hint.ensures.token)

pub returns-in_err-take_token-clause-ok : goal.returns-in_err-take_token-clause-ok
returns-in_err-take_token-clause-ok c = on-err c.from_residual.result _ c.from_residual.ensures.0
