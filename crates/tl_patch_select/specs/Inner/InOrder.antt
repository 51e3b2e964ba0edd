-- Rows that come from a page in its order.
use Rattle.std.specs.Prelude.{Option, Some, ℕ, ◌<◌, ◌≡◌, ◌≤◌}

-- of two rows that come from these places the later one comes from the later place
abbrev pub AreInOrder : (ℕ → Option ℕ) → Type 0
AreInOrder places = (row later at then : ℕ) → row < later →
    places row ≡ Some at → places later ≡ Some then → at < then

-- the same of those before a row, which come from before a place
pub record AreInOrderUpTo (places : ℕ → Option ℕ) (count past : ℕ) : Type 0 where
  pub rises : (row later at then : ℕ) → row < later → later < count →
      places row ≡ Some at → places later ≡ Some then → at < then
  pub before : (row at : ℕ) → row < count → places row ≡ Some at → at < past

-- rows of a range come from before a place
abbrev pub EndBefore : (ℕ → Option ℕ) → ℕ → ℕ → ℕ → Type 0
EndBefore places from end past =
    (row at : ℕ) → from ≤ row → row < end → places row ≡ Some at → at < past

-- rows from one on come from no earlier place
abbrev pub BeginBehind : (ℕ → Option ℕ) → ℕ → ℕ → Type 0
BeginBehind places end past = (row at : ℕ) → end ≤ row → places row ≡ Some at → past ≤ at
