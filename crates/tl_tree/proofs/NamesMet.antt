-- Names that were met: what an order of bytes finds, and what one name more changes.
use Rattle.std.proofs.Common.{IsSome, List, None, Some, Option, [], ap, cond, false, inl, inr, nat_eq, not, sym, true, true≢false, refl, rules, subst, Bool, Vec, ℕ, ◌∙◌, ◌∷◌, ◌≡◌}
use Rattle.std.proofs.lemmas.Bool.{cases_Bool, false_from_ne_true}
use Rattle.std.proofs.lemmas.Map.Text.{is_eq-slice_cmp}
use Rattle.std.proofs.lemmas.Slice.Eq.{bytes_eq-Decides}
use Rattle.std.specs.BTreeMap.{insert_entry}
use Rattle.std.specs.Cmp.Lexicographic.{slice_cmp}
use Rattle.std.specs.Map.{lookup}
use Rattle.std.specs.Ordering.{is_eq, match_ordering, nat_cmp}
use Rattle.std.specs.Str.{bytes_eq}
use Rattle.std.specs.declared.alloc.Global.{Global}
use Rattle.std.specs.declared.cmp.Ordering.{Ordering}
use Rattle.std.specs.declared.cmp.Ordering.TheVariants.{Equal, Greater, Less}
use Rattle.tl_names.specs.ElementNames.{name_of}
use Rattle.tl_tree.specs.Inner.MetNames.{lowered_number, number_among}
use Rattle.tl_tree.specs.Inner.Said.{key_order}
use Rattle.tl_tree.specs.declared.met_names.MetNames.{MetNames}

abbrev Entries : Type 0
Entries = List (Vec ℕ Global × ℕ)

-- the number that the order finds
pub found-among : (es : Entries) (n : List ℕ) → lookup (λ (own : Vec ℕ Global). is_eq (slice_cmp nat_cmp n own.items)) es ≡ number_among es n
found-among [] n = refl
found-among (e ∷ es) n =
    ap (λ (b : Bool). cond b (Some e.1) (lookup (λ (own : Vec ℕ Global). is_eq (slice_cmp nat_cmp n own.items)) es)) (is_eq-slice_cmp n e.0.items)
    ∙ ap (λ (rest : Option ℕ). cond (bytes_eq n e.0.items) (Some e.1) rest) (found-among es n)

pub not-false : (b : Bool) → not b ≡ false → b ≡ true
not-false true h = refl
not-false false h = absurd (true≢false h)

once : {A : Type 0} (b : Bool) (x y z : A) → cond b x z ≡ cond b x (cond b y z)
once true x y z = refl
once false x y z = refl

either-way : {A : Type 0} (a b : Bool) (x y z : A) → (a ≡ true → b ≡ false) → cond a x (cond b y z) ≡ cond b y (cond a x z)
either-way true true x y z apart = absurd (true≢false (apart refl))
either-way true false x y z apart = refl
either-way false b x y z apart = refl

differs : (n own k : List ℕ) → bytes_eq k own ≡ false → bytes_eq n own ≡ true → bytes_eq n k ≡ false
differs n own k other same =
    false_from_ne_true (bytes_eq n k)
    (λ also. true≢false (sym ((bytes_eq-Decides k own).1 (sym ((bytes_eq-Decides n k).0 also) ∙ (bytes_eq-Decides n own).0 same)) ∙ other))

module _ (k : Vec ℕ Global) (v : ℕ) (n : List ℕ) where
  abbrev after : Entries → Option ℕ
  after es = cond (bytes_eq n k.items) (Some v) (number_among es n)

  by-order : (e : Vec ℕ Global × ℕ) (es more : Entries) → number_among more n ≡ after es → (r : Ordering) → key_order k e.0 ≡ r → number_among (match_ordering r ((k, v) ∷ e ∷ es) ((e.0, v) ∷ es) (e ∷ more)) n ≡ after (e ∷ es)
  by-order e es more rest Less is = refl
  by-order e es more rest Equal is =
      let same : k.items ≡ e.0.items = (bytes_eq-Decides k.items e.0.items).0 (sym (is_eq-slice_cmp k.items e.0.items) ∙ ap is_eq is) in
      ap (λ (own : List ℕ). cond (bytes_eq n own) (Some v) (number_among es n)) (sym same)
      ∙ (once (bytes_eq n k.items) (Some v) (Some e.1) (number_among es n)
      ∙ ap (λ (own : List ℕ). cond (bytes_eq n k.items) (Some v) (cond (bytes_eq n own) (Some e.1) (number_among es n))) same)
  by-order e es more rest Greater is =
      ap (λ (left : Option ℕ). cond (bytes_eq n e.0.items) (Some e.1) left) rest
      ∙ either-way (bytes_eq n e.0.items) (bytes_eq n k.items) (Some e.1) (Some v) (number_among es n)
      (differs n e.0.items k.items (sym (is_eq-slice_cmp k.items e.0.items) ∙ ap is_eq is))

  pub met-inserted : (es : Entries) → number_among (insert_entry key_order es k v) n ≡ after es
  met-inserted [] = refl
  met-inserted (e ∷ es) = by-order e es (insert_entry key_order es k v) (met-inserted es) (key_order k e.0) refl

-- a key that gets a number has it, and others keep theirs
pub once-more : (old new : Entries) (k : Vec ℕ Global) (v : ℕ) (key : List ℕ) → k.items ≡ key → new ≡ insert_entry key_order old k v → number_among new key ≡ Some v
once-more old new k v key same is =
    ap (λ (es : Entries). number_among es key) is
    ∙ (met-inserted k v key old
    ∙ ap (λ (b : Bool). cond b (Some v) (number_among old key)) ((bytes_eq-Decides key k.items).1 (sym same)))

pub among-kept : (old new : Entries) (k : Vec ℕ Global) (v : ℕ) → new ≡ insert_entry key_order old k v → (key : List ℕ) → IsSome (number_among old key) → IsSome (number_among new key)
among-kept old new k v is key some =
    subst IsSome (sym (ap (λ (es : Entries). number_among es key) is ∙ met-inserted k v key old))
    (elim (bytes_eq key k.items) as (λ b. IsSome (cond b (Some v) (number_among old key))) [
      | true ↦ search rules
      | false ↦ some
    ])

none≢Some : {n : ℕ} → ◌≡◌ {A = Option ℕ} None (Some n) → ⊥
none≢Some e = absurd (cc)

-- a name of no number of its own is one of those that were met
pub other-number : (names : MetNames) (n : List ℕ) → nat_eq (name_of n).number 159 ≡ true → lowered_number names n ≡ number_among names.numbers.entries n
unfolding lowered_number
other-number names n other =
    ap (λ (b : Bool). cond b (number_among names.numbers.entries n) (Some (name_of n).number)) other

pub own-number : (names : MetNames) (n : List ℕ) → nat_eq (name_of n).number 159 ≡ false → lowered_number names n ≡ Some (name_of n).number
unfolding lowered_number
own-number names n own =
    ap (λ (b : Bool). cond b (number_among names.numbers.entries n) (Some (name_of n).number)) own

-- a name that had no number is met
module _ (old new : MetNames) (k : Vec ℕ Global) (v : ℕ) (is : new.numbers.entries ≡ insert_entry key_order old.numbers.entries k v) (none : lowered_number old k.items ≡ None) where
  all-after : (n : List ℕ) → nat_eq (name_of n).number 159 ≡ true → lowered_number new n ≡ cond (bytes_eq n k.items) (Some v) (number_among old.numbers.entries n)
  all-after n other =
      other-number new n other
      ∙ (ap (λ (es : Entries). number_among es n) is
      ∙ met-inserted k v n old.numbers.entries)

  pub name-added : lowered_number new k.items ≡ Some v
  name-added =
      elim (cases_Bool (nat_eq (name_of k.items).number 159)) [
        | inl other ↦ all-after k.items other
            ∙ ap (λ (b : Bool). cond b (Some v) (number_among old.numbers.entries k.items)) ((bytes_eq-Decides k.items k.items).1 refl)
        | inr own ↦ absurd (none≢Some (sym none ∙ own-number old k.items own))
      ]

  pub name_kept : (n : List ℕ) (number : ℕ) → lowered_number old n ≡ Some number → lowered_number new n ≡ Some number
  name_kept n number e =
      elim (cases_Bool (nat_eq (name_of n).number 159)) [
        | inl other ↦ elim (cases_Bool (bytes_eq n k.items)) [
          | inl same ↦ absurd (none≢Some (sym none ∙ (ap (lowered_number old) (sym ((bytes_eq-Decides n k.items).0 same)) ∙ e)))
          | inr differs ↦ all-after n other
              ∙ (ap (λ (b : Bool). cond b (Some v) (number_among old.numbers.entries n)) differs
              ∙ (sym (other-number old n other) ∙ e))
        ]
        | inr own ↦ own-number new n own ∙ (sym (own-number old n own) ∙ e)
      ]

pub names-same : (old new : MetNames) → new.numbers.entries ≡ old.numbers.entries → (n : List ℕ) → lowered_number new n ≡ lowered_number old n
unfolding lowered_number
names-same old new is n =
    ap (λ (es : Entries). cond (nat_eq (name_of n).number 159) (number_among es n) (Some (name_of n).number)) is
