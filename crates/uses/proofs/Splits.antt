-- Bytes that are split at the first byte of a value.
use Rattle.std.proofs.Common.{◌≡◌, ℕ, ◌+◌, ◌-◌, ◌<◌, Bool, true, false, cond, nat_lt, ◌==◌, List, [], ◌∷◌, length, take, drop, position, None, Some, refl, ap, sym, ◌∙◌, subst, length-drop, ltb-true, ltb-false, arith}
use Rattle.std.specs.List.{position_or_len}
use Rattle.std.proofs.lemmas.List.{take_all}
use Rattle.std.proofs.lemmas.List.Elements.{All-from_get_or}
use Rattle.std.proofs.lemmas.List.Splits.{slice_split_first, slice_split_none}
use Rattle.std.proofs.lemmas.List.Sums.{fails_before_first}
use Rattle.uses.specs.Split.{pieces}

module _ (at : ℕ) where
  abbrev is : ℕ → Bool
  is byte = byte == at

  within : (s : List ℕ) (end : ℕ) (b : Bool) → nat_lt (position_or_len is s) (length s) ≡ b → cond b (Some (position_or_len is s)) None ≡ Some end →
      (position_or_len is s < length s) × (position_or_len is s ≡ end)
  within s end true h e = (ltb-true _ _ h, cc)
  within s end false h e = absurd (cc)

  past : (s : List ℕ) (b : Bool) → nat_lt (position_or_len is s) (length s) ≡ b → cond b (Some (position_or_len is s)) None ≡ None →
      nat_lt (position_or_len is s) (length s) ≡ false
  past s true h e = absurd (cc)
  past s false h e = h

  -- where one stands
  pub split-there : (s : List ℕ) (end : ℕ) → position (λ byte. byte == at) s ≡ Some end →
      pieces at s ≡ take end s ∷ pieces at (take (length s - (end + 1)) (drop (end + 1) s))
  split-there s end e =
      let h = within s end (nat_lt (position_or_len is s) (length s)) refl e in
      subst (λ n. pieces at s ≡ take n s ∷ pieces at (drop (n + 1) s)) h.1 (slice_split_first is s 0 h.0)
      ∙ ap (λ rest. take end s ∷ pieces at rest) (sym (take_all (length s - (end + 1)) (drop (end + 1) s) (omega (arith, length-drop (end + 1) s))))

  -- and where none does
  pub split-nowhere : (s : List ℕ) → position (λ byte. byte == at) s ≡ None → pieces at s ≡ s ∷ []
  split-nowhere s e =
      let h = ltb-false _ _ (past s (nat_lt (position_or_len is s) (length s)) refl e) in
      slice_split_none is s (All-from_get_or (λ b. is b ≡ false) s 0 (λ i l. fails_before_first is s i 0 (omega (arith, h, l))))
