-- The rules of the code, over the names that are left.
use Rattle.std.specs.Prelude.{ℕ, ◌+◌, Bool, false, List, [], ◌∷◌, drop, is_some, if◌then◌else◌}
use Rattle.std.specs.Str.{bytes_eq}
use Rattle.tl_html_spec.specs.Balanced.{Names, Rule, depth, innermost, leading, nearest, or_none, when}
use Rattle.tl_html_balance.specs.Classes.{is}
use Rattle.tl_html_balance.specs.declared.class.TheConstants as class
use Rattle.tl_html_balance.specs.declared.rule.Reach.{Reach}
use Rattle.tl_html_balance.specs.declared.rule.Reach.TheVariants as reach

abbrev pub innermost_passes : (List ℕ → Bool) → Names → Bool
innermost_passes test [] = false
innermost_passes test (name ∷ tags) = test name

abbrev pub in_ruby : ℕ → Rule
in_ruby wanted tags =
    when (is_some (depth (is class.RUBY) (is class.SCOPE) tags)) (leading (is wanted)) tags

-- how many a rule closes that a tag of a name brings
abbrev pub rule_of : Reach → List ℕ → Rule
rule_of (reach.Nearest found stops) n tags = nearest (is found) (is stops) tags
rule_of (reach.SameName stops) n tags = nearest (bytes_eq n) (is stops) tags
rule_of (reach.Inside found) n tags = or_none (depth (is found) (is 0) tags)
rule_of (reach.Innermost wanted) n tags = innermost (is wanted) tags
rule_of (reach.InRuby wanted) n tags = in_ruby wanted tags
rule_of reach.Nothing n tags = 0

-- the rules of those rows that have a class of the name
abbrev pub rules_for : List (ℕ × Reach) → List ℕ → List Rule
rules_for [] n = []
rules_for (row ∷ rows) n = when (is row.0 n) (rule_of row.1 n) ∷ rules_for rows n

-- how many rules close one after the other
abbrev pub total : List Rule → Rule
total [] tags = 0
total (rule ∷ rules) tags = rule tags + total rules (drop (rule tags) tags)

-- what an end tag that looks for its own name stops before
abbrev pub same_name_stops : List ℕ → ℕ
same_name_stops n =
    if is class.SCOPED_END n then class.SCOPE
    else if is class.TABLE_NAME n then class.TABLE_SCOPE
    else if is class.FOUND_ANYWHERE n then 0
    else class.SPECIAL

-- how far an end tag closes
abbrev pub end_reach : List ℕ → Reach
end_reach n =
    if is class.NO_END n then reach.Nothing
    else if is class.P n then reach.Nearest class.P class.BUTTON_SCOPE
    else if is class.LI n then reach.Nearest class.LI class.LIST_SCOPE
    else if is class.HEADING n then reach.Nearest class.HEADING class.SCOPE
    else reach.SameName (same_name_stops n)
