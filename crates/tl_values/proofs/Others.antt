-- What is made of the values of an element alone.
use Rattle.std.proofs.Common.{List, refl, ℕ, ◌≡◌}
use Rattle.tl_tree.specs.Rows.{Row}
use Rattle.tl_values.specs.NewValues.{each_got, value_got, values_got}
use Rattle.tl_values.specs.declared.pattern.Pattern.{Pattern}
use Rattle.tl_values.specs.declared.rewrite.Rewrite.{Rewrite}
use Rattle.tl_values.specs.declared.rewrite.Rewrite.TheVariants as rewrite
use Rattle.url.specs.Parts.{Parts}

pub other_values : (own : Rewrite) → ((p : Pattern) → own ≡ rewrite.Pattern p → ⊥) → ((url : Parts) → own ≡ rewrite.Absolute url → ⊥) → (own ≡ rewrite.FromText → ⊥)
    → (key : List ℕ) (rows : List Row) (numbers : List ℕ) → values_got own key rows numbers ≡ each_got (value_got own key rows) numbers
other_values (rewrite.Prefix text) a b c key rows numbers = refl
other_values (rewrite.Suffix text) a b c key rows numbers = refl
other_values (rewrite.AddWord word) a b c key rows numbers = refl
other_values (rewrite.RemoveWord word) a b c key rows numbers = refl
other_values (rewrite.Replace sought put) a b c key rows numbers = refl
other_values (rewrite.Pattern p) a b c key rows numbers = absurd (a p refl)
other_values (rewrite.CopyOf other) a b c key rows numbers = refl
other_values (rewrite.DropQuery names) a b c key rows numbers = refl
other_values (rewrite.Absolute url) a b c key rows numbers = absurd (b url refl)
other_values rewrite.FromText a b c key rows numbers = absurd (c refl)
