-- What is put in the place of parts of a list: of the bytes of a page, or of its pieces.
use Rattle.std.specs.Prelude.{ℕ, ◌-◌, Bool, true, ◌&&◌, nat_le, List, [], ◌∷◌, ◌++◌, take, drop}

-- the items from one place until another, and what stands there instead
pub record Splice (A : Type 0) : Type 0 where
  pub from : ℕ
  pub until : ℕ
  pub put : List A

-- items of which the first stands at a place, with splices in order, none over another
abbrev pub with_splices_from : {A : Type 0} → ℕ → List A → List (Splice A) → List A
with_splices_from place items [] = items
with_splices_from place items (s ∷ splices) =
    take (s.from - place) items
    ++ (s.put ++ with_splices_from s.until (drop (s.until - place) items) splices)

-- a list with splices in order, none over another
abbrev pub with_splices : {A : Type 0} → List A → List (Splice A) → List A
with_splices items splices = with_splices_from 0 items splices

-- whether splices stand in order between two places, none over another
abbrev pub are_ordered : {A : Type 0} → ℕ → ℕ → List (Splice A) → Bool
are_ordered place end [] = true
are_ordered place end (s ∷ splices) =
    nat_le place s.from && nat_le s.from s.until && nat_le s.until end
    && are_ordered s.until end splices
