-- The rows of the code are the rules of the definitions.
use Rattle.std.proofs.Common.{◌≡◌, ℕ, Bool, true, false, not, ◌||◌, List, ◌∷◌, ◌+◌, drop, is_some, codes, refl, ap, sym, ◌∙◌, if◌then◌else◌}
use Rattle.std.specs.Str.{bytes_eq}
use Rattle.tl_names.specs.Elements.{head_parts, is_among}
use Rattle.tl_html_spec.specs.Balanced.{Names, Rule, before_start, carried_out, closed_by, closing, depth, innermost, inside_of, is_foreign, is_head, is_in_ruby, is_one_of, leading, nearest, or_none, rules_before, then_closing, when}
use Rattle.tl_html_balance.specs.Classes.{is}
use Rattle.tl_html_balance.specs.Inner.Rules.{end_reach, in_ruby, rule_of, rules_for, same_name_stops, total}
use Rattle.tl_html_balance.specs.declared.class.TheConstants as class
use Rattle.tl_html_balance.specs.declared.rule.Reach.{Reach}
use Rattle.tl_html_balance.specs.declared.rule.Reach.TheVariants as reach
use Rattle.tl_html_balance.specs.declared.rule.TheConstants.{BEFORE_START}
use Rattle.tl_html_balance.proofs.Tests as test
use Rattle.tl_html_balance.proofs.Totals.{carried, closing-add}

abbrev Test : Type 0
Test = List ℕ → Bool

-- tests that are one say one of a name
pub at : {p q : List ℕ → Bool} (n : List ℕ) → p ≡ q → p n ≡ q n
at n e = ap (λ (t : List ℕ → Bool). t n) e

nearest_row : {b c : Bool} {p q s t : List ℕ → Bool} → b ≡ c → p ≡ q → s ≡ t → ◌≡◌ {A = Rule} (when b (nearest p s)) (when c (nearest q t))
nearest_row {c = c} {p = p} {q = q} {s = s} e f g =
    ap (λ (v : Bool). let r : Rule = when v (nearest p s) in r) e
    ∙ ap (λ (x : Test). let r : Rule = when c (nearest x s) in r) f
    ∙ ap (λ (x : Test). let r : Rule = when c (nearest q x) in r) g

inside_row : {b c : Bool} {p q : List ℕ → Bool} → b ≡ c → p ≡ q → ◌≡◌ {A = Rule} (when b (λ tags. or_none (depth p (is 0) tags))) (when c (inside_of q))
inside_row {c = c} {p = p} e f =
    ap (λ (v : Bool). let r : Rule = when v (λ tags. or_none (depth p (is 0) tags)) in r) e
    ∙ ap (λ (x : Test). let r : Rule = when c (λ tags. or_none (depth p x tags)) in r) test.never_is
    ∙ ap (λ (x : Test). let r : Rule = when c (inside_of x) in r) f

innermost_row : {b c : Bool} {p q : List ℕ → Bool} → b ≡ c → p ≡ q → ◌≡◌ {A = Rule} (when b (innermost p)) (when c (innermost q))
innermost_row {c = c} {p = p} e f =
    ap (λ (v : Bool). let r : Rule = when v (innermost p) in r) e ∙ ap (λ (x : Test). let r : Rule = when c (innermost x) in r) f

ruby_row : {b c : Bool} {q : List ℕ → Bool} (wanted : ℕ) → b ≡ c → is wanted ≡ q → ◌≡◌ {A = Rule} (when b (in_ruby wanted)) (when c (λ tags. when (is_in_ruby tags) (leading q) tags))
ruby_row {c = c} {q = q} wanted e f =
    ap (λ (v : Bool). let r : Rule = when v (in_ruby wanted) in r) e
    ∙ ap (λ (x : Test). let r : Rule = when c (λ tags. when (is_some (depth x (is class.SCOPE) tags)) (leading (is wanted)) tags) in r) test.ruby
    ∙ ap (λ (x : Test). let r : Rule = when c (λ tags. when (is_some (depth (is_one_of (codes "ruby")) x tags)) (leading (is wanted)) tags) in r) test.scope
    ∙ ap (λ (x : Test). let r : Rule = when c (λ tags. when (is_in_ruby tags) (leading x) tags) in r) f

and_more : {r s : Rule} {rs ss : List Rule} → r ≡ s → rs ≡ ss → r ∷ rs ≡ s ∷ ss
and_more {s = s} {rs = rs} e f = ap (λ (x : Rule). x ∷ rs) e ∙ ap (λ (x : List Rule). s ∷ x) f

pub rules-are : (n : List ℕ) → rules_for BEFORE_START n ≡ rules_before n
rules-are n =
    and_more (nearest_row (at n test.li) test.li test.item_bound)
    (and_more (nearest_row (at n test.description) test.description test.item_bound)
    (and_more (nearest_row (at n test.paragraph_end) test.p test.button_scope)
    (and_more (innermost_row (at n test.heading) test.heading)
    (and_more (innermost_row (at n test.option_like) test.option)
    (and_more (innermost_row (at n test.group_like) test.optgroup)
    (and_more (nearest_row (at n test.button) test.button test.scope)
    (and_more (nearest_row (at n test.a) refl test.special)
    (and_more (ruby_row class.IMPLIED_END (at n test.rb) test.implied)
    (and_more (ruby_row class.TEXT_END (at n test.rt) test.text_end)
    (and_more (inside_row (at n test.tr) test.row_bound)
    (and_more (inside_row (at n test.cell) test.in_row_bound)
    (and_more (inside_row (at n test.col) test.column_bound)
    (and_more (inside_row (at n test.column_group) test.table_bound)
    (and_more (nearest_row (at n test.table) test.table test.table_cell_bound)
    refl))))))))))))))

-- what a start tag closes

abbrev pub head_closed : List ℕ → Names → ℕ
head_closed n tags = when (not (is_among head_parts n || is_head n)) (leading is_head) tags

pub head-is : (n : List ℕ) (tags : Names) (k : ℕ) (within : Bool) → within ≡ is class.IN_HEAD n → k ≡ when (not within) (leading is_head) tags → k ≡ head_closed n tags
head-is n tags k within e h =
    h ∙ ap (λ (v : Bool). when (not v) (leading is_head) tags) (e ∙ at n test.head_or_part)

before_with : (n : List ℕ) (tags : Names) (v : Bool) → is_foreign (drop (head_closed n tags) tags) ≡ v →
    before_start n tags ≡ (if v then closing (head_closed n tags) tags else then_closing (closing (head_closed n tags) tags) (carried_out (rules_before n) (drop (head_closed n tags) tags)))
before_with n tags v e =
    ap (λ (f : Bool). if f then closing (head_closed n tags) tags else then_closing (closing (head_closed n tags) tags) (carried_out (rules_before n) (drop (head_closed n tags) tags))) e

-- where what is left is foreign, and where it is not
pub before-foreign : (n : List ℕ) (tags : Names) (head : ℕ) → head ≡ head_closed n tags → is_foreign (drop head tags) ≡ true → closing head tags ≡ before_start n tags
before-foreign n tags head e f =
    ap (λ k. closing k tags) e ∙ sym (before_with n tags true (ap (λ k. is_foreign (drop k tags)) (sym e) ∙ f))

pub before-rules : (n : List ℕ) (tags : Names) (head more : ℕ) → head ≡ head_closed n tags → is_foreign (drop head tags) ≡ false → more ≡ total (rules_for BEFORE_START n) (drop head tags) → closing (head + more) tags ≡ before_start n tags
before-rules n tags head more e f g =
    let first : ℕ = head_closed n tags in
    let rest : Names = drop first tags in
    ap (λ k. closing (head + k) tags) (g ∙ ap (λ (rules : List Rule). total rules (drop head tags)) (rules-are n))
    ∙ ap (λ k. closing (k + total (rules_before n) (drop k tags)) tags) e
    ∙ sym (closing-add first (total (rules_before n) rest) tags)
    ∙ ap (then_closing (closing first tags)) (sym (carried (rules_before n) rest))
    ∙ sym (before_with n tags false (ap (λ k. is_foreign (drop k tags)) (sym e) ∙ f))

-- what an end tag closes

choice : (v : Bool) (x y : Reach) (n : List ℕ) (tags : Names) (k m : ℕ) → rule_of x n tags ≡ k → rule_of y n tags ≡ m → rule_of (if v then x else y) n tags ≡ (if v then k else m)
choice true x y n tags k m h i = h
choice false x y n tags k m h i = i

choose : {v w : Bool} {k m : ℕ} (x y : Reach) (n : List ℕ) (tags : Names) → v ≡ w → rule_of x n tags ≡ k → rule_of y n tags ≡ m → rule_of (if v then x else y) n tags ≡ (if w then k else m)
choose {v} {w} {k} {m} x y n tags e h i = choice v x y n tags k m h i ∙ ap (λ (u : Bool). if u then k else m) e

stops_choice : (v : Bool) (s t : ℕ) (n : List ℕ) (tags : Names) (k m : ℕ) → nearest (bytes_eq n) (is s) tags ≡ k → nearest (bytes_eq n) (is t) tags ≡ m → nearest (bytes_eq n) (is (if v then s else t)) tags ≡ (if v then k else m)
stops_choice true s t n tags k m h i = h
stops_choice false s t n tags k m h i = i

choose_stops : {v w : Bool} {k m : ℕ} (s t : ℕ) (n : List ℕ) (tags : Names) → v ≡ w → nearest (bytes_eq n) (is s) tags ≡ k → nearest (bytes_eq n) (is t) tags ≡ m → nearest (bytes_eq n) (is (if v then s else t)) tags ≡ (if w then k else m)
choose_stops {v} {w} {k} {m} s t n tags e h i = stops_choice v s t n tags k m h i ∙ ap (λ (u : Bool). if u then k else m) e

same_stops : {p : List ℕ → Bool} (s : ℕ) (n : List ℕ) (tags : Names) → is s ≡ p → nearest (bytes_eq n) (is s) tags ≡ nearest (bytes_eq n) p tags
same_stops s n tags e = ap (λ (p : Test). nearest (bytes_eq n) p tags) e

same_search : {p q : List ℕ → Bool} (f s : ℕ) (tags : Names) → is f ≡ p → is s ≡ q → nearest (is f) (is s) tags ≡ nearest p q tags
same_search {p} f s tags e g = ap (λ (x : Test). nearest x (is s) tags) e ∙ ap (λ (x : Test). nearest p x tags) g

pub end-closes : (n : List ℕ) (tags : Names) → rule_of (end_reach n) n tags ≡ closed_by n tags
end-closes n tags =
    choose reach.Nothing _ n tags (at n test.unended) refl
    (choose (reach.Nearest class.P class.BUTTON_SCOPE) _ n tags (at n test.p) (same_search class.P class.BUTTON_SCOPE tags test.p test.button_scope)
    (choose (reach.Nearest class.LI class.LIST_SCOPE) _ n tags (at n test.li) (same_search class.LI class.LIST_SCOPE tags test.li test.list_scope)
    (choose (reach.Nearest class.HEADING class.SCOPE) (reach.SameName (same_name_stops n)) n tags (at n test.heading) (same_search class.HEADING class.SCOPE tags test.heading test.scope)
    (choose_stops class.SCOPE _ n tags (at n test.scoped_end) (same_stops class.SCOPE n tags test.scope)
    (choose_stops class.TABLE_SCOPE _ n tags (at n test.table_or_part) (same_stops class.TABLE_SCOPE n tags test.table_scope)
    (choose_stops 0 class.SPECIAL n tags (at n test.any_depth) (same_stops 0 n tags test.never_is)
    (same_stops class.SPECIAL n tags test.special)))))))
