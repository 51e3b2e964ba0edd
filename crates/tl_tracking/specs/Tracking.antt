-- What the maps from ids and classes hold, and how they answer.
use Rattle.std.specs.Prelude.{◌≡◌, ℕ, ◌-◌, Bool, false, ◌==◌, ⊤, List, [], ◌∷◌, ◌++◌, length, slice_get, if◌then◌else◌, Option, None, Some, refl}
use Rattle.std.specs.Borrow.{Bor}
use Rattle.std.specs.Coded.{Coded, code_by, coded×, coded_list, coded_option, coded_ℕ}
use Rattle.std.specs.List.{list_any}
use Rattle.std.specs.Map.{lookup}
use Rattle.std.specs.Option.{option_or}
use Rattle.std.specs.Str.{bytes_eq}
use Rattle.tl_spec.specs.Tree.Inline.{InlineVec}
use Rattle.tl_spec.specs.Tree.Document.{Node}
use Rattle.tl_spec.specs.Lookup.Scan.{id_scan, class_scan}
use Rattle.tl_tracking.specs.Options.{Options}
use Rattle.tl_inline.specs.InlineVec.{inline_vec_code}

-- the pairs of the map from ids, where they are tracked
abbrev pub IdPairs : Type 0 → Type 0
IdPairs B = Option (List (B × ℕ))

-- those of the map from members of classes
abbrev pub ClassPairs : Type 0 → Type 0
ClassPairs B = Option (List (B × InlineVec ℕ))

-- both, and the number that their names are hashed by
pub record Tracking (B : Type 0) : Type 0 where
  pub ids : IdPairs B
  pub classes : ClassPairs B
  pub key : ℕ

-- they are stored as their fields
abbrev pub tracking_code : {B : Type 0} → Coded B → Coded (Tracking B)
tracking_code {B} piece =
    code_by (IdPairs B × (ClassPairs B × ℕ))
    (coded× (coded_option (coded_list (coded× piece coded_ℕ)))
    (coded× (coded_option (coded_list (coded× piece (inline_vec_code coded_ℕ)))) coded_ℕ))
    (λ t. (t.ids, (t.classes, t.key))) (λ p. record { ids = p.0; classes = p.1.0; key = p.1.1 })
    (λ _. refl)

-- a map without pairs, where it is asked for
abbrev pub empty_when : {A : Type 0} → Bool → Option (List A)
empty_when asked = if asked then Some [] else None

-- what is asked for, before any tag
abbrev pub no_maps : {B : Type 0} → Options → ℕ → Tracking B
no_maps asked key = record {
  ids = empty_when asked.ids;
  classes = empty_when asked.classes;
  key = key;
}

-- n alone, if it is there
abbrev pub singleton_when : Bool → ℕ → List ℕ
singleton_when is_there n = if is_there then n ∷ [] else []

-- whether there is a number, and it is n
abbrev pub is_number : ℕ → Option ℕ → Bool
is_number n None = false
is_number n (Some m) = m == n

-- whether n is the last
abbrev pub ends_with : ℕ → List ℕ → Bool
ends_with n ns = is_number n (slice_get ns (length ns - 1))

-- with n at the end, once
abbrev pub with_number : ℕ → List ℕ → List ℕ
with_number n ns = if ends_with n ns then ns else ns ++ n ∷ []

-- the numbers of a list, if there is one
abbrev pub numbers_of : Option (InlineVec ℕ) → List ℕ
numbers_of None = []
numbers_of (Some numbers) = numbers.items

-- the numbers of a slice, if there is one
abbrev pub numbers_lent : Option (Bor (List ℕ)) → List ℕ
numbers_lent None = []
numbers_lent (Some numbers) = numbers.now

-- the numbers under a member of classes
abbrev pub class_at : {B : Type 0} → (B → B → Bool) → List (B × InlineVec ℕ) → B → List ℕ
class_at eq pairs member = numbers_of (lookup (eq member) pairs)

-- a number is put under an id, unless there is one
abbrev pub KeepsFirst : {B : Type 0} → (B → B → Bool) → B → ℕ → List (B × ℕ) → List (B × ℕ) → Type 0
KeepsFirst {B} eq id number old new =
    (key : B) → lookup (eq key) new ≡ option_or (lookup (eq key) old)
    (if eq key id then Some number else None)

-- a number is put at the end of those under a member, once
abbrev pub AddsMember : {B : Type 0} → (B → B → Bool) → B → ℕ → List (B × InlineVec ℕ) →
    List (B × InlineVec ℕ) → Type 0
AddsMember {B} eq member number old new =
    (key : B) → class_at eq new key ≡ (if eq key member then with_number number
    (class_at eq old key) else class_at eq old key)

-- the number under an id, where ids are tracked
abbrev pub id_in : {B : Type 0} → (B → B → Bool) → IdPairs B → B → Option ℕ
id_in eq None id = None
id_in eq (Some pairs) id = lookup (eq id) pairs

-- the numbers under a member, where classes are tracked
abbrev pub class_in : {B : Type 0} → (B → B → Bool) → ClassPairs B → B → List ℕ
class_in eq None member = []
class_in eq (Some pairs) member = class_at eq pairs member

module _ {B : Type 0} (list : B → List ℕ) (eq : B → B → Bool) where
  -- where ids are tracked, each is answered as by a scan of these nodes
  abbrev pub TracksIds : IdPairs B → List Node → Type 0
  TracksIds None nodes = ⊤
  TracksIds (Some pairs) nodes = (id : B) → lookup (eq id) pairs ≡ id_scan nodes (list id)

  -- where classes are tracked, each member is answered as by a scan of these nodes
  abbrev pub TracksClasses : ClassPairs B → List Node → Type 0
  TracksClasses None nodes = ⊤
  TracksClasses (Some pairs) nodes =
      (member : B) → class_at eq pairs member ≡ class_scan nodes (list member)

  -- where classes are tracked, each member is answered as by a scan of these nodes, and the tag
  -- after them stands under these of its members
  abbrev pub TracksMembers : ClassPairs B → List Node → List (List ℕ) → Type 0
  TracksMembers None nodes noted = ⊤
  TracksMembers (Some pairs) nodes noted = (member : B) →
      class_at eq pairs member ≡ class_scan nodes (list member)
      ++ singleton_when (list_any (bytes_eq (list member)) noted) (length nodes)
