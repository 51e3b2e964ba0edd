-- Frames that are settled while they pass a test, one after the other.
use Rattle.std.proofs.Common.{ap, arith, sym, ◌∙◌, ◌≡◌, ◌≤◌, ◌∷◌, ◌||◌, [], Bool, List, false, length, not, refl, suc, true}
use Rattle.std.proofs.lemmas.List.{length-map}
use Rattle.tl_dom_spec.specs.Path.{Frame, Nodes, Path, Place, behind, here, into, into_head, node_of, popped_while, settled_at, settled_while, top_settled}

abbrev pub is_settled : (Frame → Bool) → Frame → Bool
is_settled test f = not f.is_open || test f

pub settled-none : (test : Frame → Bool) (count : List Frame) → settled_while test count [] ≡ []
settled-none test [] = refl
settled-none test (c ∷ count) = refl

pub settled-step : (test : Frame → Bool) (c : Frame) (count : List Frame) (f : Frame) (path : Path) → is_settled test f ≡ true → settled_while test (c ∷ count) (f ∷ path) ≡ settled_while test count (top_settled (f ∷ path))
settled-step test c count f path e =
    ap (λ (b : Bool). elim b as (λ _. Path) [ true ↦ settled_while test count (top_settled (f ∷ path)) | false ↦ f ∷ path ]) e

pub settled-stop : (test : Frame → Bool) (count : List Frame) (f : Frame) (path : Path) → is_settled test f ≡ false → settled_while test count (f ∷ path) ≡ f ∷ path
settled-stop test [] f path e = refl
settled-stop test (c ∷ count) f path e =
    ap (λ (b : Bool). elim b as (λ _. Path) [ true ↦ settled_while test count (top_settled (f ∷ path)) | false ↦ f ∷ path ]) e

-- the document stays
pub settled-one : (test : Frame → Bool) (count : List Frame) (f : Frame) → settled_while test count (f ∷ []) ≡ f ∷ []
settled-one test [] f = refl
settled-one test (c ∷ count) f =
    elim (is_settled test f) as (λ b. (elim b as (λ _. Path) [ true ↦ settled_while test count (top_settled (f ∷ [])) | false ↦ f ∷ [] ]) ≡ f ∷ []) [
      | true ↦ settled-one test count f
      | false ↦ refl
    ]

at-length : (place : Place) (nodes : Nodes) (f : Frame) (path : Path) → length (settled_at place nodes (f ∷ path)) ≡ suc (length path)
at-length here nodes f path = refl
at-length (into k) nodes f path = length-map (f ∷ path) _
at-length (behind k) nodes f path = length-map (f ∷ path) _
at-length into_head nodes f path = refl

pub length-settled : (f g : Frame) (path : Path) → length (top_settled (f ∷ g ∷ path)) ≡ suc (length path)
length-settled f g path = at-length f.place (node_of f) g path

-- any count that is long enough
pub any-count : (test : Frame → Bool) (a b : List Frame) (path : Path) → length path ≤ length a → length path ≤ length b → settled_while test a path ≡ settled_while test b path
any-count test a b [] h k = settled-none test a ∙ sym (settled-none test b)
any-count test a b (f ∷ []) h k = settled-one test a f ∙ sym (settled-one test b f)
any-count test [] b (f ∷ g ∷ path) h k = absurd (omega arith)
any-count test (c ∷ a) [] (f ∷ g ∷ path) h k = absurd (omega arith)
any-count test (c ∷ a) (d ∷ b) (f ∷ g ∷ path) h k =
    let many = length-settled f g path in
    let rest : settled_while test a (top_settled (f ∷ g ∷ path)) ≡ settled_while test b (top_settled (f ∷ g ∷ path)) =
    any-count test a b (top_settled (f ∷ g ∷ path)) (omega arith) (omega arith) in
    elim (is_settled test f) as (λ x. (elim x as (λ _. Path) [ true ↦ settled_while test a (top_settled (f ∷ g ∷ path)) | false ↦ f ∷ g ∷ path ]) ≡ (elim x as (λ _. Path) [ true ↦ settled_while test b (top_settled (f ∷ g ∷ path)) | false ↦ f ∷ g ∷ path ])) [
      | true ↦ rest
      | false ↦ refl
    ]

pub popped-step : (test : Frame → Bool) (f g : Frame) (path : Path) → is_settled test f ≡ true → popped_while test (f ∷ g ∷ path) ≡ popped_while test (top_settled (f ∷ g ∷ path))
popped-step test f g path e =
    let many = length-settled f g path in
    settled-step test f (g ∷ path) f (g ∷ path) e
    ∙ any-count test (g ∷ path) (top_settled (f ∷ g ∷ path)) (top_settled (f ∷ g ∷ path)) (omega arith) (omega arith)
