-- What the rows of the code say of a name is what the definitions' tests say of it.
use Rattle.std.proofs.Common.{◌≡◌, ℕ, Bool, true, false, not, ◌&&◌, ◌||◌, List, [], ◌∷◌, inl, inr, refl, ap, sym, ◌∙◌, if◌then◌else◌}
use Rattle.std.proofs.Math.Path.{fun_ext}
use Rattle.std.specs.List.{list_all, list_any}
use Rattle.std.specs.Str.{bytes_eq}
use Rattle.std.proofs.lemmas.Bool.{and_left, and_parts, both_ways, cases_Bool, false_from_ne_true, or_from}
use Rattle.std.proofs.lemmas.Slice.Eq.{bytes_eq-Decides}
use Rattle.tl_html_balance.specs.Classes.{Row, classes_in, classes_of, groups, has, is, joined}

abbrev same : Bool → Bool → Bool
same true v = v
same false v = not v

same-true : (u v : Bool) → same u v ≡ true → u ≡ v
same-true true true e = refl
same-true true false e = sym e
same-true false true e = e
same-true false false e = refl

abbrev pub rows : List Row
rows = joined groups

-- each row has one of these classes where its name passes the test
abbrev pub agree : ℕ → (List ℕ → Bool) → List Row → Bool
agree wanted test [] = true
agree wanted test (row ∷ more) = same (has wanted row.1) (test row.0) && agree wanted test more

abbrev pub is_row : List Row → List ℕ → Bool
is_row [] name = false
is_row (row ∷ more) name = bytes_eq name row.0 || is_row more name

pub agreed_in : (wanted : ℕ) (test : List ℕ → Bool) (name : List ℕ) (rs : List Row) → agree wanted test rs ≡ true → (is_row rs name ≡ false → test name ≡ false) → has wanted (classes_in rs name) ≡ test name
agreed_in wanted test name [] h none = sym (none refl)
agreed_in wanted test name (row ∷ more) h none =
    let here = and_parts (same (has wanted row.1) (test row.0)) (agree wanted test more) h in
    elim (cases_Bool (bytes_eq name row.0)) [
      | inl e ↦
          ap (λ (v : Bool). has wanted (if v then row.1 else classes_in more name)) e
          ∙ same-true (has wanted row.1) (test row.0) here.0
          ∙ sym (ap test ((bytes_eq-Decides name row.0).0 e))
      | inr e ↦
          ap (λ (v : Bool). has wanted (if v then row.1 else classes_in more name)) e
          ∙ agreed_in wanted test name more here.1 (λ n. none (or_from (bytes_eq name row.0) (is_row more name) e n))
    ]

-- a test that passes names of rows alone
pub record IsKnown (test : List ℕ → Bool) : Type 0 where
  pub none : (name : List ℕ) → is_row rows name ≡ false → test name ≡ false

pub agreed : (wanted : ℕ) (test : List ℕ → Bool) → IsKnown test → agree wanted test rows ≡ true → is wanted ≡ test
unfolding is classes_of
agreed wanted test known h = fun_ext (λ name. agreed_in wanted test name rows h (known.none name))

-- names that are among the rows
pub listed : (words : List (List ℕ)) → list_all (is_row rows) words ≡ true → IsKnown (λ name. list_any (bytes_eq name) words)
listed [] h = record { none = λ name e. refl }
listed (word ∷ words) h =
    let here = and_parts (is_row rows word) (list_all (is_row rows) words) h in
    record {
      none = λ name e.
          or_from (bytes_eq name word) (list_any (bytes_eq name) words)
          (false_from_ne_true (bytes_eq name word) (λ t. both_ways (is_row rows name) e (ap (is_row rows) ((bytes_eq-Decides name word).0 t) ∙ here.0)))
          ((listed words here.1).none name e);
    }

pub either : (p q : List ℕ → Bool) → IsKnown p → IsKnown q → IsKnown (λ name. p name || q name)
either p q h k = record { none = λ name e. or_from (p name) (q name) (h.none name e) (k.none name e) }

pub but : (p q : List ℕ → Bool) → IsKnown p → IsKnown (λ name. p name && not (q name))
but p q h = record { none = λ name e. and_left (p name) (not (q name)) (h.none name e) }
