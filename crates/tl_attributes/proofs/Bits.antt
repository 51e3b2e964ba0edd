-- The bits of a class.
use Rattle.std.proofs.Common.{◌≡◌, ℕ, ◌-◌, ◌*◌, ◌%◌, ◌^◌, ◌<◌, ◌⊎◌, true, List, ◌∷◌, sym, ap, ◌∙◌, subst, inl, inr, bit_or, arith}
use Rattle.std.specs.Int.{bit_at, w32}
use Rattle.std.specs.List.{list_any}
use Rattle.std.specs.Str.{bytes_eq}
use Rattle.std.proofs.lemmas.Bool.{or_cases}
use Rattle.std.proofs.lemmas.Nat.Bits.{bit_at_or, bit_at-lt, bit_at_set_same, bit_at_ones}
use Rattle.std.proofs.lemmas.Slice.Eq.{bytes_eq-Decides}
use Rattle.tl_attributes.specs.Summary.{fingerprint_of, bit_of, MayBeMember}
use Rattle.tl_attributes.specs.declared.summary.Fingerprint.{Fingerprint}

bit_within : (mark : Fingerprint) → bit_of mark < 32
bit_within mark = omega arith

-- where all bits are set each is
pub all_set : (mark : Fingerprint) → MayBeMember (2 ^ 32 - 1) mark
all_set mark = bit_at_ones 32 (bit_of mark) (bit_within mark)

-- a bit that is set stays so
stays : (a b i : ℕ) → bit_at a i ≡ 1 → bit_at (bit_or a b) i ≡ 1
stays a b i e = bit_at_or a b i ∙ omega (arith, e, bit_at-lt b i)

module _ (bits k : ℕ) (member part : List ℕ) (before rest : List (List ℕ)) where
  -- what is left to be noted once the bit of the first part is set
  pub noted_more : before ≡ part ∷ rest → k ≡ bit_of (fingerprint_of part) → MayBeMember bits (fingerprint_of member) ⊎ (list_any (bytes_eq member) before ≡ true)
      → MayBeMember (bit_or bits (1 * 2 ^ k % 2 ^ 32)) (fingerprint_of member) ⊎ (list_any (bytes_eq member) rest ≡ true)
  noted_more first place (inl e) = inl (stays bits (1 * 2 ^ k % 2 ^ 32) (bit_of (fingerprint_of member)) e)
  noted_more first place (inr e) = one (or_cases (bytes_eq member part) (list_any (bytes_eq member) rest) (sym (ap (list_any (bytes_eq member)) first) ∙ e))
    where
      set : k ≡ bit_of (fingerprint_of member) → MayBeMember (bit_or bits (1 * 2 ^ k % 2 ^ 32)) (fingerprint_of member)
      set same = subst (λ i. bit_at (bit_or bits (1 * 2 ^ k % 2 ^ 32)) i ≡ 1) same (bit_at_set_same w32 bits k (subst (λ i. i < 32) (sym same) (bit_within (fingerprint_of member))))

      one : (bytes_eq member part ≡ true) ⊎ (list_any (bytes_eq member) rest ≡ true)
          → MayBeMember (bit_or bits (1 * 2 ^ k % 2 ^ 32)) (fingerprint_of member) ⊎ (list_any (bytes_eq member) rest ≡ true)
      one (inl f) = inl (set (place ∙ sym (ap (λ (v : List ℕ). bit_of (fingerprint_of v)) ((bytes_eq-Decides member part).0 f))))
      one (inr f) = inr f
