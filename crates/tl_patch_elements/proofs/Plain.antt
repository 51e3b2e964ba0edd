-- Characters that go, and that stay.
use Rattle.std.proofs.Common.{◌≡◌, ℕ, Bool, true, false, not, List, [], ◌∷◌, ◌++◌, drop, take, map, refl, ap, sym}
use Rattle.tl_html_spec.specs.HtmlTokenizer.{Character, EndTag, is_white_space}
use Rattle.tl_html_spec.specs.Balanced.{Balance, Names, balance, is_head, leading, when}
use Rattle.tl_patch_elements.specs.Inner.Finding.{goes}

abbrev pub balanced_at : Names → Bool → Balance
balanced_at tags feed = record { open_tags = tags; drops_feed = feed }

-- a character that goes, and one that stays

pub dropped_emits : (tags : Names) (feed : Bool) (b : ℕ) → goes feed b ≡ true → (balance (balanced_at tags feed) (Character b)).emits ≡ []
dropped_emits tags feed b h = rw h refl

pub dropped_next : (tags : Names) (feed : Bool) (b : ℕ) → goes feed b ≡ true → (balance (balanced_at tags feed) (Character b)).next ≡ balanced_at tags false
dropped_next tags feed b h = rw h refl

pub kept_emits : (tags : Names) (feed : Bool) (b n : ℕ) → goes feed b ≡ false → n ≡ when (not (is_white_space b)) (leading is_head) tags →
    (balance (balanced_at tags feed) (Character b)).emits ≡ map EndTag (take n tags) ++ Character b ∷ []
kept_emits tags feed b n h e = rw h (ap (λ k. map EndTag (take k tags) ++ Character b ∷ []) (sym e))

pub kept_next : (tags : Names) (feed : Bool) (b n : ℕ) → goes feed b ≡ false → n ≡ when (not (is_white_space b)) (leading is_head) tags →
    (balance (balanced_at tags feed) (Character b)).next ≡ balanced_at (drop n tags) false
kept_next tags feed b n h e = rw h (ap (λ k. balanced_at (drop k tags) false) (sym e))
