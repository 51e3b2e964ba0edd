-- Searches among names, as far as a loop has come.
use Rattle.std.proofs.Common.{◌≡◌, ℕ, suc, ◌+◌, ◌<◌, ◌≤◌, min, Bool, true, false, not, ◌||◌, List, [], ◌∷◌, Option, Some, None, codes, option_map, length, take, drop, get_or, refl, ap, sym, ◌∙◌, arith, zero-add, length-take, if◌then◌else◌}
use Rattle.std.specs.Str.{bytes_eq}
use Rattle.std.proofs.lemmas.List.{drop_all, drop_more, get_or-take}
use Rattle.tl_html_spec.specs.Balanced.{Names, depth, depth_in, is_foreign, is_innermost, is_one_of, looked_at, never}
use Rattle.tl_html_balance.specs.Classes.{is}
use Rattle.tl_html_balance.specs.Inner.Rules.{innermost_passes}
use Rattle.tl_html_balance.specs.declared.class.TheConstants as class
use Rattle.tl_html_balance.proofs.Tests.{any_foreign, foreign_object, never_is}

-- a depth below so many that were passed
abbrev pub deeper : ℕ → Option ℕ → Option ℕ
deeper d None = None
deeper d (Some n) = Some (d + n)

-- the search, from the place on that a loop has come to
abbrev pub found_from : (List ℕ → Bool) → (List ℕ → Bool) → Names → ℕ → Option ℕ
found_from found stops names d = deeper d (depth_in found stops (drop d (take looked_at names)))

deeper-zero : (o : Option ℕ) → o ≡ deeper 0 o
deeper-zero None = refl
deeper-zero (Some n) = ap Some (sym (zero-add n))

deeper-more : (d : ℕ) (o : Option ℕ) → deeper d (option_map (λ n. suc n) o) ≡ deeper (d + 1) o
deeper-more d None = refl
deeper-more d (Some n) = let e : d + suc n ≡ (d + 1) + n = omega arith in ap Some e

pub search-begins : (found stops : List ℕ → Bool) (names : Names) → depth found stops names ≡ found_from found stops names 0
search-begins found stops names = deeper-zero (depth found stops names)

in_view : (limit : ℕ) (names : Names) (d : ℕ) → d < length names → d < limit → drop d (take limit names) ≡ get_or names d [] ∷ drop (d + 1) (take limit names)
in_view limit names d h k =
    let many : d < length (take limit names) = omega (arith, length-take limit names) in
    drop_more (take limit names) d [] many ∙ ap (λ (name : List ℕ). name ∷ drop (d + 1) (take limit names)) (get_or-take limit names d [] k)

step : (found stops : List ℕ → Bool) (names : Names) (d e : ℕ) → d < e → e ≡ min (length names) looked_at →
    found_from found stops names d ≡ deeper d (depth_in found stops (get_or names d [] ∷ drop (d + 1) (take looked_at names)))
step found stops names d e h k =
    ap (λ (rest : Names). deeper d (depth_in found stops rest)) (in_view looked_at names d (omega arith) (omega arith))

pub search-finds : (found stops : List ℕ → Bool) (names : Names) (d e : ℕ) → d < e → e ≡ min (length names) looked_at → found (get_or names d []) ≡ true → found_from found stops names d ≡ Some d
search-finds found stops names d e h k t =
    let same : d + 0 ≡ d = omega arith in
    step found stops names d e h k
    ∙ ap (λ (v : Bool). deeper d (if v then Some 0 else if stops (get_or names d []) then None else option_map (λ n. suc n) (depth_in found stops (drop (d + 1) (take looked_at names))))) t
    ∙ ap Some same

pub search-stops : (found stops : List ℕ → Bool) (names : Names) (d e : ℕ) → d < e → e ≡ min (length names) looked_at → found (get_or names d []) ≡ false → stops (get_or names d []) ≡ true → found_from found stops names d ≡ None
search-stops found stops names d e h k f t =
    step found stops names d e h k
    ∙ ap (λ (v : Bool). deeper d (if v then Some 0 else if stops (get_or names d []) then None else option_map (λ n. suc n) (depth_in found stops (drop (d + 1) (take looked_at names))))) f
    ∙ ap (λ (v : Bool). deeper d (if v then None else option_map (λ n. suc n) (depth_in found stops (drop (d + 1) (take looked_at names))))) t

pub search-passes : (found stops : List ℕ → Bool) (names : Names) (d e : ℕ) → d < e → e ≡ min (length names) looked_at → found (get_or names d []) ≡ false → stops (get_or names d []) ≡ false →
    found_from found stops names d ≡ found_from found stops names (d + 1)
search-passes found stops names d e h k f g =
    step found stops names d e h k
    ∙ ap (λ (v : Bool). deeper d (if v then Some 0 else if stops (get_or names d []) then None else option_map (λ n. suc n) (depth_in found stops (drop (d + 1) (take looked_at names))))) f
    ∙ ap (λ (v : Bool). deeper d (if v then None else option_map (λ n. suc n) (depth_in found stops (drop (d + 1) (take looked_at names))))) g
    ∙ deeper-more d (depth_in found stops (drop (d + 1) (take looked_at names)))

pub search-ends : (found stops : List ℕ → Bool) (names : Names) (d e : ℕ) → e ≤ d → e ≡ min (length names) looked_at → found_from found stops names d ≡ None
search-ends found stops names d e h k =
    ap (λ (rest : Names). deeper d (depth_in found stops rest)) (drop_all d (take looked_at names) (omega (arith, length-take looked_at names)))

-- what is found is there

found_below : (f s : Bool) (o : Option ℕ) (n most : ℕ) → ((m : ℕ) → o ≡ Some m → m < most) → (if f then Some 0 else if s then None else option_map (λ m. suc m) o) ≡ Some n → n < suc most
found_below true s o n most more h = let zero_is : 0 ≡ n = cc in omega arith
found_below false true o n most more h = absurd (cc)
found_below false false None n most more h = absurd (cc)
found_below false false (Some m) n most more h =
    let below : m < most = more m refl in
    let next : suc m ≡ n = cc in
    omega arith

within_in : (found stops : List ℕ → Bool) (names : Names) (n : ℕ) → depth_in found stops names ≡ Some n → n < length names
within_in found stops [] n e = absurd (cc)
within_in found stops (name ∷ names) n e =
    found_below (found name) (stops name) (depth_in found stops names) n (length names) (λ m h. within_in found stops names m h) e

pub depth-within : (found stops : List ℕ → Bool) (names : Names) (n : ℕ) → depth found stops names ≡ Some n → n < length names
depth-within found stops names n e =
    let more = within_in found stops (take looked_at names) n e in
    omega (arith, length-take looked_at names)

-- those on top

one_more : (v : Bool) (n most : ℕ) → n ≤ most → (if v then suc n else 0) ≤ suc most
one_more true n most h = omega arith
one_more false n most h = omega arith

pub innermost-none : (test : List ℕ → Bool) (names : Names) → length names ≡ 0 → false ≡ innermost_passes test names
innermost-none test [] e = refl
innermost-none test (name ∷ names) e = absurd (omega arith)

-- inside `svg` or `math`

abbrev foreign_from : Names → Option ℕ → Bool
foreign_from names o =
    elim o as (λ _. Bool) [ None ↦ false | Some n ↦ not (is_innermost (codes "foreignobject") (drop n names)) ]

bound_is : (names : Names) → depth (is class.FOREIGN_BOUND) (is 0) names ≡ depth (is_one_of (codes "svg math foreignobject")) never names
bound_is names =
    ap (λ (found : List ℕ → Bool). depth found (is 0) names) any_foreign
    ∙ ap (λ (stops : List ℕ → Bool). depth (is_one_of (codes "svg math foreignobject")) stops names) never_is

one_alone : (v : Bool) → (v || false) ≡ v
one_alone true = refl
one_alone false = refl

pub foreign-none : (names : Names) → None ≡ depth (is class.FOREIGN_BOUND) (is 0) names → false ≡ is_foreign names
foreign-none names e = ap (foreign_from names) (e ∙ bound_is names)

pub foreign-some : (names : Names) (n : ℕ) (v : Bool) → Some n ≡ depth (is class.FOREIGN_BOUND) (is 0) names → v ≡ is class.FOREIGN_OBJECT (get_or names n []) → not v ≡ is_foreign names
foreign-some names n v e f =
    let within : n < length names = depth-within (is class.FOREIGN_BOUND) (is 0) names n (sym e) in
    let word : List ℕ = codes "foreignobject" in
    ap not (f ∙ ap (λ (test : List ℕ → Bool). test (get_or names n [])) foreign_object ∙ one_alone (bytes_eq (get_or names n []) word))
    ∙ sym (ap (λ (rest : Names). not (is_innermost word rest)) (drop_more names n [] within))
    ∙ ap (foreign_from names) (e ∙ bound_is names)
