-- What an edit of the pairs leaves true of each, and what a write at a key leaves.
use Rattle.std.proofs.Common.{◌≡◌, ℕ, Bool, true, false, List, Option, Some, None, Result, Ok, Err, OnOk, OnErr, subst, sym, ap, refl, ◌∙◌, option_map}
use Rattle.std.specs.List.{AllByRecursion}
use Rattle.std.specs.Option.{option_flatten}
use Rattle.std.specs.Map.{lookup}
use Rattle.std.proofs.lemmas.Map.Steps.{set_value_same}
use Rattle.tl_spec.specs.Tree.Inline.{InlineMap, with_entry, with_value}
use Rattle.tl_spec.specs.Lex.AttributeList.{Attributes, is_id, is_class}
use Rattle.tl_spec.specs.Edit.Attribute.{value_at, with_value_at}
use Rattle.tl_spec.proofs.Lex.ByKey.{choose_by_key-id, choose_by_key-class}
use Rattle.tl_spec.proofs.Tree.Pairs.{all-insert_entry}
use Rattle.tl_inline.proofs.Maps.{set_value-absent}

-- what an insert leaves true of each key, also where it is refused
pub all_after : {K V U E : Type 0} (P : K → Type 0) (eq : K → K → Bool) (n : ℕ) (r : Result U E) (old new : InlineMap K V) (k : K) (v : V) → P k
    → AllByRecursion (λ e. P e.0) old.entries → OnOk r (new ≡ with_entry eq n old k v) → OnErr r (new ≡ old) → AllByRecursion (λ e. P e.0) new.entries
all_after P eq n (Ok u) old new k v p h ok err =
    subst (λ m. AllByRecursion (λ e. P e.0) m.entries) (sym ok) (all-insert_entry (λ e. P e.0) eq old.entries k v (λ e q. q) p h)
all_after P eq n (Err e) old new k v p h ok err = subst (λ m. AllByRecursion (λ e. P e.0) m.entries) (sym err) h

module _ {B : Type 0} (eq : B → B → Bool) (a : Attributes B) (k : B) where
  -- where a key is not there its value cannot go
  pub no_value_there : lookup (eq k) a.others.entries ≡ None → a ≡ record a { others = with_value eq a.others k None }
  no_value_there h = ap (λ es. record a { others = record a.others { entries = es } }) (sym (set_value-absent (eq k) a.others.entries None h))

  -- a write of the value that is there changes nothing
  pub put_back : (v : Option B) → Some v ≡ lookup (eq k) a.others.entries → record a { others = with_value eq a.others k v } ≡ a
  put_back v h = ap (λ es. record a { others = record a.others { entries = es } }) (set_value_same (eq k) a.others.entries v (sym h))

flat : {B : Type 0} (o : Option B) → o ≡ option_flatten (option_map Some o)
flat None = refl
flat (Some x) = refl

-- what a write at `id` and at `class` leaves
module _ {B : Type 0} (list : B → List ℕ) (eq : B → B → Bool) (a : Attributes B) (k : B) where
  pub at_id : is_id (list k) ≡ true → (w : B) → record a { id = Some w } ≡ with_value_at list eq a k w
  at_id here w = sym (choose_by_key-id (list k) _ _ _ here)

  pub at_class : is_id (list k) ≡ false → is_class (list k) ≡ true → (w : B) → record a { class = Some w } ≡ with_value_at list eq a k w
  at_class other here w = sym (choose_by_key-class (list k) _ _ _ other here)

  pub value_at_id : is_id (list k) ≡ true → a.id ≡ option_flatten (value_at list eq a k)
  value_at_id here = flat a.id ∙ ap option_flatten (sym (choose_by_key-id (list k) _ _ _ here))

  pub value_at_class : is_id (list k) ≡ false → is_class (list k) ≡ true → a.class ≡ option_flatten (value_at list eq a k)
  value_at_class other here = flat a.class ∙ ap option_flatten (sym (choose_by_key-class (list k) _ _ _ other here))

-- a value that is found is that of a key which has one
pub lent_found : {B : Type 0} (o : Option (Option B)) (x : B) → Some x ≡ option_flatten o → Some (Some x) ≡ o
lent_found None x h = cc
lent_found (Some None) x h = cc
lent_found (Some (Some y)) x h = ap Some h
