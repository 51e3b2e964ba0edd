-- Rules one after the other close what they close together.
use Rattle.std.proofs.Common.{◌≡◌, ℕ, zero, suc, ◌+◌, ◌<◌, ◌≤◌, Bool, true, false, List, [], ◌∷◌, ◌++◌, Option, Some, None, option_map, length, take, drop, map, get_or, refl, ap, sym, ◌∙◌, arith, add-one, if◌then◌else◌}
use Rattle.std.proofs.lemmas.List.{drop-drop, drop_more, map-append}
use Rattle.tl_html_spec.specs.HtmlTokenizer.{HtmlToken, EndTag}
use Rattle.tl_html_spec.specs.Balanced.{Closing, Names, Rule, carried_out, closing, then_closing, when}
use Rattle.tl_html_balance.specs.Classes.{is}
use Rattle.tl_html_balance.specs.Inner.Rules.{rule_of, rules_for, total}
use Rattle.tl_html_balance.specs.declared.rule.Reach.{Reach}

take_none : (n : ℕ) → take {A = List ℕ} n [] ≡ []
take_none zero = refl
take_none (suc n) = refl

take-add : (a b : ℕ) (tags : Names) → take a tags ++ take b (drop a tags) ≡ take (a + b) tags
take-add zero b tags = let e : b ≡ 0 + b = omega arith in ap (λ n. take n tags) e
take-add (suc a) b [] = take_none b ∙ sym (take_none (suc a + b))
take-add (suc a) b (name ∷ tags) =
    let e : suc (a + b) ≡ suc a + b = omega arith in
    ap (λ (more : Names). name ∷ more) (take-add a b tags) ∙ ap (λ n. take n (name ∷ tags)) e

pub closing-add : (a b : ℕ) (tags : Names) → then_closing (closing a tags) (closing b (drop a tags)) ≡ closing (a + b) tags
closing-add a b tags =
    let ends : map EndTag (take a tags) ++ map EndTag (take b (drop a tags)) ≡ map EndTag (take (a + b) tags) =
    sym (map-append EndTag (take a tags) (take b (drop a tags))) ∙ ap (map EndTag) (take-add a b tags) in
    let left : drop b (drop a tags) ≡ drop (a + b) tags = drop-drop b a tags in
    made _ _ _ _ ends left
  where
    made : (e f : List HtmlToken) (l m : Names) → e ≡ f → l ≡ m → ◌≡◌ {A = Closing} (record { ends = e; left = l }) (record { ends = f; left = m })
    made e f l m h k =
        ap (λ (x : List HtmlToken). let c : Closing = record { ends = x; left = l } in c) h
        ∙ ap (λ (x : Names). let c : Closing = record { ends = f; left = x } in c) k

-- rules one after the other are one closing of all that they close
pub carried : (rules : List Rule) (tags : Names) → carried_out rules tags ≡ closing (total rules tags) tags
carried [] tags = refl
carried (rule ∷ rules) tags =
    ap (then_closing (closing (rule tags) tags)) (carried rules (drop (rule tags) tags))
    ∙ closing-add (rule tags) (total rules (drop (rule tags) tags)) tags

-- the loop over the rows

at_row : (rows : List (ℕ × Reach)) (n : List ℕ) (tags : Names) (i : ℕ) (row : ℕ × Reach) → i < length rows → row ≡ get_or rows i row →
    total (rules_for (drop i rows) n) tags ≡ total (when (is row.0 n) (rule_of row.1 n) ∷ rules_for (drop (i + 1) rows) n) tags
at_row rows n tags i row lt e =
    ap (λ (rest : List (ℕ × Reach)). total (rules_for rest n) tags) (drop_more rows i row lt)
    ∙ ap (λ (r : ℕ × Reach). total (rules_for (r ∷ drop (i + 1) rows) n) tags) (sym e)

-- one rule
