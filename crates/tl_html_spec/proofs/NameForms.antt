-- The names of references: letters and digits, and a `;` at the end or none.
use Rattle.std.proofs.Common.{◌≡◌, ℕ, Bool, true, false, ◌||◌, ◌&&◌, ◌==◌, List, [], ◌∷◌, refl, if◌then◌else◌}
use Rattle.std.specs.Char.{is_ascii_alphanumeric}
use Rattle.std.specs.List.{list_all}
use Rattle.tl_names.specs.References.{table_of}
use Rattle.tl_html_spec.specs.References.{Row, rows}

abbrev pub is_name : List ℕ → Bool
is_name [] = true
is_name (b ∷ []) = is_ascii_alphanumeric b || (b == 59)
is_name (b ∷ c ∷ name) = is_ascii_alphanumeric b && is_name (c ∷ name)

abbrev pub has_name : Row → Bool
has_name row = is_name row.0

-- each row of a table has such a name
record AreNamed (table : List ℕ) : Type 0 where
  all : list_all has_name (rows table) ≡ true

chosen : (c : Bool) (s t : List ℕ) → AreNamed s → AreNamed t → AreNamed (if c then s else t)
chosen true s t x y = x
chosen false s t x y = y

upper_a : AreNamed (table_of 65)
upper_a = record { all = refl }

upper_b : AreNamed (table_of 66)
upper_b = record { all = refl }

upper_c : AreNamed (table_of 67)
upper_c = record { all = refl }

upper_d : AreNamed (table_of 68)
upper_d = record { all = refl }

upper_e : AreNamed (table_of 69)
upper_e = record { all = refl }

upper_f : AreNamed (table_of 70)
upper_f = record { all = refl }

upper_g : AreNamed (table_of 71)
upper_g = record { all = refl }

upper_h : AreNamed (table_of 72)
upper_h = record { all = refl }

upper_i : AreNamed (table_of 73)
upper_i = record { all = refl }

upper_j : AreNamed (table_of 74)
upper_j = record { all = refl }

upper_k : AreNamed (table_of 75)
upper_k = record { all = refl }

upper_l : AreNamed (table_of 76)
upper_l = record { all = refl }

upper_m : AreNamed (table_of 77)
upper_m = record { all = refl }

upper_n : AreNamed (table_of 78)
upper_n = record { all = refl }

upper_o : AreNamed (table_of 79)
upper_o = record { all = refl }

upper_p : AreNamed (table_of 80)
upper_p = record { all = refl }

upper_q : AreNamed (table_of 81)
upper_q = record { all = refl }

upper_r : AreNamed (table_of 82)
upper_r = record { all = refl }

upper_s : AreNamed (table_of 83)
upper_s = record { all = refl }

upper_t : AreNamed (table_of 84)
upper_t = record { all = refl }

upper_u : AreNamed (table_of 85)
upper_u = record { all = refl }

upper_v : AreNamed (table_of 86)
upper_v = record { all = refl }

upper_w : AreNamed (table_of 87)
upper_w = record { all = refl }

upper_x : AreNamed (table_of 88)
upper_x = record { all = refl }

upper_y : AreNamed (table_of 89)
upper_y = record { all = refl }

upper_z : AreNamed (table_of 90)
upper_z = record { all = refl }

lower_a : AreNamed (table_of 97)
lower_a = record { all = refl }

lower_b : AreNamed (table_of 98)
lower_b = record { all = refl }

lower_c : AreNamed (table_of 99)
lower_c = record { all = refl }

lower_d : AreNamed (table_of 100)
lower_d = record { all = refl }

lower_e : AreNamed (table_of 101)
lower_e = record { all = refl }

lower_f : AreNamed (table_of 102)
lower_f = record { all = refl }

lower_g : AreNamed (table_of 103)
lower_g = record { all = refl }

lower_h : AreNamed (table_of 104)
lower_h = record { all = refl }

lower_i : AreNamed (table_of 105)
lower_i = record { all = refl }

lower_j : AreNamed (table_of 106)
lower_j = record { all = refl }

lower_k : AreNamed (table_of 107)
lower_k = record { all = refl }

lower_l : AreNamed (table_of 108)
lower_l = record { all = refl }

lower_m : AreNamed (table_of 109)
lower_m = record { all = refl }

lower_n : AreNamed (table_of 110)
lower_n = record { all = refl }

lower_o : AreNamed (table_of 111)
lower_o = record { all = refl }

lower_p : AreNamed (table_of 112)
lower_p = record { all = refl }

lower_q : AreNamed (table_of 113)
lower_q = record { all = refl }

lower_r : AreNamed (table_of 114)
lower_r = record { all = refl }

lower_s : AreNamed (table_of 115)
lower_s = record { all = refl }

lower_t : AreNamed (table_of 116)
lower_t = record { all = refl }

lower_u : AreNamed (table_of 117)
lower_u = record { all = refl }

lower_v : AreNamed (table_of 118)
lower_v = record { all = refl }

lower_w : AreNamed (table_of 119)
lower_w = record { all = refl }

lower_x : AreNamed (table_of 120)
lower_x = record { all = refl }

lower_y : AreNamed (table_of 121)
lower_y = record { all = refl }

lower_z : AreNamed (table_of 122)
lower_z = record { all = refl }

none : AreNamed []
none = record { all = refl }

table-named : (b : ℕ) → AreNamed (table_of b)
table-named b =
    chosen (b == 65) (table_of 65) _ upper_a (
    chosen (b == 66) (table_of 66) _ upper_b (
    chosen (b == 67) (table_of 67) _ upper_c (
    chosen (b == 68) (table_of 68) _ upper_d (
    chosen (b == 69) (table_of 69) _ upper_e (
    chosen (b == 70) (table_of 70) _ upper_f (
    chosen (b == 71) (table_of 71) _ upper_g (
    chosen (b == 72) (table_of 72) _ upper_h (
    chosen (b == 73) (table_of 73) _ upper_i (
    chosen (b == 74) (table_of 74) _ upper_j (
    chosen (b == 75) (table_of 75) _ upper_k (
    chosen (b == 76) (table_of 76) _ upper_l (
    chosen (b == 77) (table_of 77) _ upper_m (
    chosen (b == 78) (table_of 78) _ upper_n (
    chosen (b == 79) (table_of 79) _ upper_o (
    chosen (b == 80) (table_of 80) _ upper_p (
    chosen (b == 81) (table_of 81) _ upper_q (
    chosen (b == 82) (table_of 82) _ upper_r (
    chosen (b == 83) (table_of 83) _ upper_s (
    chosen (b == 84) (table_of 84) _ upper_t (
    chosen (b == 85) (table_of 85) _ upper_u (
    chosen (b == 86) (table_of 86) _ upper_v (
    chosen (b == 87) (table_of 87) _ upper_w (
    chosen (b == 88) (table_of 88) _ upper_x (
    chosen (b == 89) (table_of 89) _ upper_y (
    chosen (b == 90) (table_of 90) _ upper_z (
    chosen (b == 97) (table_of 97) _ lower_a (
    chosen (b == 98) (table_of 98) _ lower_b (
    chosen (b == 99) (table_of 99) _ lower_c (
    chosen (b == 100) (table_of 100) _ lower_d (
    chosen (b == 101) (table_of 101) _ lower_e (
    chosen (b == 102) (table_of 102) _ lower_f (
    chosen (b == 103) (table_of 103) _ lower_g (
    chosen (b == 104) (table_of 104) _ lower_h (
    chosen (b == 105) (table_of 105) _ lower_i (
    chosen (b == 106) (table_of 106) _ lower_j (
    chosen (b == 107) (table_of 107) _ lower_k (
    chosen (b == 108) (table_of 108) _ lower_l (
    chosen (b == 109) (table_of 109) _ lower_m (
    chosen (b == 110) (table_of 110) _ lower_n (
    chosen (b == 111) (table_of 111) _ lower_o (
    chosen (b == 112) (table_of 112) _ lower_p (
    chosen (b == 113) (table_of 113) _ lower_q (
    chosen (b == 114) (table_of 114) _ lower_r (
    chosen (b == 115) (table_of 115) _ lower_s (
    chosen (b == 116) (table_of 116) _ lower_t (
    chosen (b == 117) (table_of 117) _ lower_u (
    chosen (b == 118) (table_of 118) _ lower_v (
    chosen (b == 119) (table_of 119) _ lower_w (
    chosen (b == 120) (table_of 120) _ lower_x (
    chosen (b == 121) (table_of 121) _ lower_y (
    chosen (b == 122) (table_of 122) _ lower_z (
    none))))))))))))))))))))))))))))))))))))))))))))))))))))

pub rows-named : (b : ℕ) → list_all has_name (rows (table_of b)) ≡ true
rows-named b = (table-named b).all
