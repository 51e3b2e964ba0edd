-- The tags of the open elements of a path, and what is done to the path: which of them are left.
use Rattle.std.proofs.Common.{Bool, List, [], ap, false, if◌then◌else◌, inl, inr, map, not, refl, subst, sym, true, true≢false, ℕ, ◌==◌, ◌||◌, ◌∙◌, ◌∷◌, ◌≡◌, ◌⊎◌}
use Rattle.std.specs.Prelude.{⊤}
use Rattle.std.proofs.lemmas.Bool.{cases_Bool, cond_both}
use Rattle.tl_dom_spec.specs.Tags.{Tag}
use Rattle.tl_dom_spec.specs.Path.{Frame, Nodes, Path, Place, at_head, at_number, behind, caught_up, elements, has_tag, here, into, into_head, new_frame, no_frame, node_of, on_top, popped, popped_through, put, settled_at, settled_while, top_settled, with_nodes, with_waiting}
use Rattle.tl_dom_spec.specs.Builder.{pushed_at}
use Rattle.tl_dom_spec.specs.Lawful.{IsRooted}

abbrev pub tags : Path → List Tag
tags path = map (λ (f : Frame). f.tag) (elements path)

-- a list that is as long as the path, or longer
abbrev Long : Path → Path → Type 0
Long count [] = ⊤
Long [] (f ∷ path) = ⊥
Long (c ∷ count) (f ∷ path) = Long count path

-- changes of a frame that leave its tag, and it open or not

record Same (change : Frame → Frame) : Type 0 where
  tag : (f : Frame) → (change f).tag ≡ f.tag
  opens : (f : Frame) → (change f).is_open ≡ f.is_open

first-tags : (f g : Frame) (path more : Path) → g.tag ≡ f.tag → g.is_open ≡ f.is_open → tags path ≡ tags more → tags (g ∷ path) ≡ tags (f ∷ more)
first-tags f g path more t o e = elim (cases_Bool f.is_open) [
  | inl y ↦ (let z : g.is_open ≡ true = o ∙ y in rw (y, z) (rw t (ap (λ ts. f.tag ∷ ts) e)))
  | inr n ↦ (let z : g.is_open ≡ false = o ∙ n in rw (n, z) e)
]

on_top-tags : (change : Frame → Frame) (path : Path) → Same change → tags (on_top change path) ≡ tags path
on_top-tags change [] s = refl
on_top-tags change (f ∷ path) s = first-tags f (change f) path path (s.tag f) (s.opens f) refl

map-tags : (change : Frame → Frame) (path : Path) → Same change → tags (map change path) ≡ tags path
map-tags change [] s = refl
map-tags change (f ∷ path) s = first-tags f (change f) (map change path) path (s.tag f) (s.opens f) (map-tags change path s)

on_top-Rooted : (change : Frame → Frame) (path : Path) → Same change → IsRooted path → IsRooted (on_top change path)
on_top-Rooted change [] s r = r
on_top-Rooted change (f ∷ []) s r = s.opens f ∙ r
on_top-Rooted change (f ∷ g ∷ path) s r = r

map-Rooted : (change : Frame → Frame) (path : Path) → Same change → IsRooted path → IsRooted (map change path)
map-Rooted change [] s r = r
map-Rooted change (f ∷ []) s r = s.opens f ∙ r
map-Rooted change (f ∷ g ∷ path) s r = map-Rooted change (g ∷ path) s r

on_top-Long : (change : Frame → Frame) (count path : Path) → Long count path → Long count (on_top change path)
on_top-Long change count [] l = tt
on_top-Long change [] (f ∷ path) l = l
on_top-Long change (c ∷ count) (f ∷ path) l = l

map-Long : (change : Frame → Frame) (count path : Path) → Long count path → Long count (map change path)
map-Long change count [] l = tt
map-Long change [] (f ∷ path) l = l
map-Long change (c ∷ count) (f ∷ path) l = map-Long change count path l

pub long : (path : Path) → Long path path
long [] = tt
long (f ∷ path) = long path

at-same : (k : ℕ) (change : Frame → Frame) → Same change → Same (λ (f : Frame). if f.number == k then change f else f)
at-same k change s = record {
  tag = λ f. cond_both (f.number == k) (change f) f (λ x. x.tag ≡ f.tag) (λ _. s.tag f) (λ _. refl);
  opens = λ f. cond_both (f.number == k) (change f) f (λ x. x.is_open ≡ f.is_open) (λ _. s.opens f) (λ _. refl);
}

-- what is put somewhere, or settled there, leaves the path as it is
record Stays (change : Path → Path) : Type 0 where
  tags_are : (path : Path) → tags (change path) ≡ tags path
  rooted : (path : Path) → IsRooted path → IsRooted (change path)
  long : (count path : Path) → Long count path → Long count (change path)

on_top-stays : (change : Frame → Frame) → Same change → Stays (on_top change)
on_top-stays change s = record {
  tags_are = λ path. on_top-tags change path s;
  rooted = λ path r. on_top-Rooted change path s r;
  long = λ count path l. on_top-Long change count path l;
}

at-stays : (k : ℕ) (change : Frame → Frame) → Same change → Stays (at_number k change)
at-stays k change s = record {
  tags_are = λ path. map-tags _ path (at-same k change s);
  rooted = λ path r. map-Rooted _ path (at-same k change s) r;
  long = λ count path l. map-Long _ count path l;
}

put-stays : (place : Place) (nodes : Nodes) → Stays (put place nodes)
put-stays here nodes = on_top-stays (λ (f : Frame). with_nodes nodes (caught_up f)) (record { tag = λ f. refl; opens = λ f. refl })
put-stays (into k) nodes = at-stays k (with_nodes nodes) (record { tag = λ f. refl; opens = λ f. refl })
put-stays (behind k) nodes = at-stays k (with_waiting nodes) (record { tag = λ f. refl; opens = λ f. refl })
put-stays into_head nodes =
    on_top-stays (λ (f : Frame). record f { children = at_head f.children nodes }) (record { tag = λ f. refl; opens = λ f. refl })

settled_at-stays : (place : Place) (nodes : Nodes) → Stays (settled_at place nodes)
settled_at-stays here nodes = on_top-stays (λ (f : Frame). caught_up (with_nodes nodes f)) (record { tag = λ f. refl; opens = λ f. refl })
settled_at-stays (into k) nodes = put-stays (into k) nodes
settled_at-stays (behind k) nodes = put-stays (behind k) nodes
settled_at-stays into_head nodes = put-stays into_head nodes

pub put-tags : (place : Place) (nodes : Nodes) (path : Path) → tags (put place nodes path) ≡ tags path
put-tags place nodes path = (put-stays place nodes).tags_are path

pub pushed-tags : (place : Place) (k : ℕ) (tag : Tag) (own : Place) (path : Path) → tags (pushed_at place (new_frame k tag own) path) ≡ tag ∷ tags path
pushed-tags here k tag own path = ap (λ ts. tag ∷ ts) (on_top-tags caught_up path (record { tag = λ f. refl; opens = λ f. refl }))
pushed-tags (into n) k tag own path = refl
pushed-tags (behind n) k tag own path = refl
pushed-tags into_head k tag own path = refl

-- one frame after another is settled

abbrev either_way : Bool → (Frame → Bool) → Path → Frame → Path → Path
either_way v test count f path =
    elim v as (λ _. Path) [
      | true ↦ settled_while test count (top_settled (f ∷ path))
      | false ↦ f ∷ path
    ]

goes_on : (test : Frame → Bool) (c : Frame) (count : Path) (f : Frame) (path : Path) → (not f.is_open || test f) ≡ true →
    settled_while test (c ∷ count) (f ∷ path) ≡ settled_while test count (top_settled (f ∷ path))
goes_on test c count f path e = ap (λ v. either_way v test count f path) e

ends_there : (test : Frame → Bool) (c : Frame) (count : Path) (f : Frame) (path : Path) → (not f.is_open || test f) ≡ false →
    settled_while test (c ∷ count) (f ∷ path) ≡ f ∷ path
ends_there test c count f path e = ap (λ v. either_way v test count f path) e

closed_goes : (a b : Bool) → a ≡ false → (not a || b) ≡ true
closed_goes true b e = absurd (true≢false e)
closed_goes false b e = refl

passing_goes : (a b : Bool) → b ≡ true → (not a || b) ≡ true
passing_goes true b e = e
passing_goes false b e = refl

pub or_right_of : (a b : Bool) → a ≡ false → (a || b) ≡ true → b ≡ true
or_right_of true b n e = absurd (true≢false n)
or_right_of false b n e = e

open_ends : (a b : Bool) → a ≡ true → b ≡ false → (not a || b) ≡ false
open_ends true b y e = e
open_ends false b y e = absurd (true≢false (sym y))

pub closed-tags : (f : Frame) (path : Path) → f.is_open ≡ false → tags (f ∷ path) ≡ tags path
closed-tags f path n = ap (λ (v : Bool). map (λ (g : Frame). g.tag) (if v then f ∷ elements path else elements path)) n

pub open-tags : (f : Frame) (path : Path) → f.is_open ≡ true → tags (f ∷ path) ≡ f.tag ∷ tags path
open-tags f path y = ap (λ (v : Bool). map (λ (g : Frame). g.tag) (if v then f ∷ elements path else elements path)) y

top-tags : (f o : Frame) (path : Path) → tags (top_settled (f ∷ o ∷ path)) ≡ tags (o ∷ path)
top-tags f o path = (settled_at-stays f.place (node_of f)).tags_are (o ∷ path)

closed-top : (f : Frame) (path : Path) → f.is_open ≡ false → tags (top_settled (f ∷ path)) ≡ tags (f ∷ path)
closed-top f [] n = refl
closed-top f (o ∷ path) n = top-tags f o path ∙ sym (closed-tags f (o ∷ path) n)

-- frames that are not open are no matter
pub settled-tags : (count path : Path) → tags (settled_while no_frame count path) ≡ tags path
settled-tags [] path = refl
settled-tags (c ∷ count) [] = refl
settled-tags (c ∷ count) (f ∷ path) = elim (cases_Bool f.is_open) [
  | inl y ↦ ap tags (ends_there no_frame c count f path (open_ends f.is_open false y refl))
  | inr n ↦ ap tags (goes_on no_frame c count f path (closed_goes f.is_open false n)) ∙ settled-tags count (top_settled (f ∷ path)) ∙ closed-top f path n
]

pub settled_while-Rooted : (test : Frame → Bool) (count path : Path) → IsRooted path → IsRooted (settled_while test count path)
settled_while-Rooted test [] path r = r
settled_while-Rooted test (c ∷ count) [] r = r
settled_while-Rooted test (c ∷ count) (f ∷ path) r = elim (cases_Bool (not f.is_open || test f)) [
  | inl y ↦ subst IsRooted (sym (goes_on test c count f path y)) (settled_while-Rooted test count (top_settled (f ∷ path)) (top-Rooted path r))
  | inr n ↦ subst IsRooted (sym (ends_there test c count f path n)) r
]
  where
    top-Rooted : (path : Path) → IsRooted (f ∷ path) → IsRooted (top_settled (f ∷ path))
    top-Rooted [] r = r
    top-Rooted (o ∷ path) r = (settled_at-stays f.place (node_of f)).rooted (o ∷ path) r

-- what is left where all up to the first that passes is popped, and that one too
abbrev pub through : (Tag → Bool) → List Tag → List Tag
through test [] = []
through test (t ∷ ts) = if test t then ts else through test ts

abbrev until : (Tag → Bool) → Frame → Bool
until test f = not (has_tag test f)

alone : (test : Frame → Bool) (count : Path) (f : Frame) → settled_while test count (f ∷ []) ≡ f ∷ []
alone test [] f = refl
alone test (c ∷ count) f = elim (cases_Bool (not f.is_open || test f)) [
  | inl y ↦ goes_on test c count f [] y ∙ alone test count f
  | inr n ↦ ends_there test c count f [] n
]

popped-tags : (f o : Frame) (path : Path) → tags (popped (f ∷ o ∷ path)) ≡ tags (o ∷ path)
popped-tags f o path = settled-tags (top_settled (f ∷ o ∷ path)) (top_settled (f ∷ o ∷ path)) ∙ top-tags f o path

through-passing : (test : Tag → Bool) (f : Frame) (path : Path) → f.is_open ≡ true → test f.tag ≡ true → through test (tags (f ∷ path)) ≡ tags path
through-passing test f path y z =
    ap (through test) (open-tags f path y) ∙ ap (λ (v : Bool). if v then tags path else through test (tags path)) z

through-other : (test : Tag → Bool) (f : Frame) (path : Path) → test f.tag ≡ false → through test (tags (f ∷ path)) ≡ through test (tags path)
through-other test f path m = elim (cases_Bool f.is_open) [
  | inl y ↦ ap (through test) (open-tags f path y) ∙ ap (λ (v : Bool). if v then tags path else through test (tags path)) m
  | inr n ↦ ap (through test) (closed-tags f path n)
]

to-through : (test : Tag → Bool) (count path : Path) → Long count path → IsRooted path → tags (popped (settled_while (until test) count path)) ≡ through test (tags path)
to-through test count [] l r = absurd r
to-through test [] (f ∷ path) l r = absurd l
to-through test (c ∷ count) (f ∷ []) l r =
    ap (λ (p : Path). tags (popped p)) (alone (until test) (c ∷ count) f)
    ∙ settled-tags (f ∷ []) (f ∷ []) ∙ closed-tags f [] r ∙ sym (ap (through test) (closed-tags f [] r))
to-through test (c ∷ count) (f ∷ o ∷ path) l r =
    let stays = settled_at-stays f.place (node_of f) in
    let later : tags (popped (settled_while (until test) count (top_settled (f ∷ o ∷ path)))) ≡ through test (tags (o ∷ path)) =
    to-through test count (top_settled (f ∷ o ∷ path)) (stays.long count (o ∷ path) l) (stays.rooted (o ∷ path) r)
    ∙ ap (through test) (top-tags f o path) in
    elim (cases_Bool f.is_open) [
      | inr n ↦ ap (λ (p : Path). tags (popped p)) (goes_on (until test) c count f (o ∷ path) (closed_goes f.is_open _ n)) ∙ later
          ∙ sym (ap (through test) (closed-tags f (o ∷ path) n))
      | inl y ↦ elim (cases_Bool (test f.tag)) [
        | inl z ↦ ap (λ (p : Path). tags (popped p)) (ends_there (until test) c count f (o ∷ path) (open_ends f.is_open _ y (ap not z)))
            ∙ popped-tags f o path ∙ sym (through-passing test f (o ∷ path) y z)
        | inr m ↦ ap (λ (p : Path). tags (popped p)) (goes_on (until test) c count f (o ∷ path) (passing_goes f.is_open _ (ap not m))) ∙ later
            ∙ sym (through-other test f (o ∷ path) m)
      ]
    ]

pub through-tags : (test : Tag → Bool) (path : Path) → IsRooted path → tags (popped_through (has_tag test) path) ≡ through test (tags path)
through-tags test path r = to-through test path path (long path) r

-- what is left of a list: its end
abbrev pub EndOf : List Tag → List Tag → Type 0
EndOf [] ts = ts ≡ []
EndOf (u ∷ us) ts = (ts ≡ u ∷ us) ⊎ EndOf us ts

pub end-all : (us : List Tag) → EndOf us us
end-all [] = refl
end-all (u ∷ us) = inl refl

end-more : (f : Frame) (path : Path) (ts : List Tag) → EndOf (tags path) ts → EndOf (tags (f ∷ path)) ts
end-more f path ts e = elim (cases_Bool f.is_open) [
  | inl y ↦ subst (λ us. EndOf us ts) (sym (open-tags f path y)) (inr e)
  | inr n ↦ subst (λ us. EndOf us ts) (sym (closed-tags f path n)) e
]

end-top : (f : Frame) (path : Path) (ts : List Tag) → EndOf (tags (top_settled (f ∷ path))) ts → EndOf (tags (f ∷ path)) ts
end-top f [] ts e = e
end-top f (o ∷ path) ts e = end-more f (o ∷ path) ts (subst (λ us. EndOf us ts) (top-tags f o path) e)

pub settled_while-end : (test : Frame → Bool) (count path : Path) → EndOf (tags path) (tags (settled_while test count path))
settled_while-end test [] path = end-all (tags path)
settled_while-end test (c ∷ count) [] = refl
settled_while-end test (c ∷ count) (f ∷ path) = elim (cases_Bool (not f.is_open || test f)) [
  | inl y ↦ subst (λ (p : Path). EndOf (tags (f ∷ path)) (tags p)) (sym (goes_on test c count f path y))
      (end-top f path (tags (settled_while test count (top_settled (f ∷ path)))) (settled_while-end test count (top_settled (f ∷ path))))
  | inr n ↦ subst (λ (p : Path). EndOf (tags (f ∷ path)) (tags p)) (sym (ends_there test c count f path n)) (end-all (tags (f ∷ path)))
]

pub popped-end : (path : Path) → EndOf (tags path) (tags (popped path))
popped-end [] = refl
popped-end (f ∷ path) = end-top f path (tags (popped (f ∷ path))) (settled_while-end no_frame (top_settled (f ∷ path)) (top_settled (f ∷ path)))

-- the document stays

pub put-Rooted : (place : Place) (nodes : Nodes) (path : Path) → IsRooted path → IsRooted (put place nodes path)
put-Rooted place nodes path r = (put-stays place nodes).rooted path r

pub popped-Rooted : (path : Path) → IsRooted path → IsRooted (popped path)
popped-Rooted [] r = r
popped-Rooted (f ∷ []) r = settled_while-Rooted no_frame (f ∷ []) (f ∷ []) r
popped-Rooted (f ∷ o ∷ path) r =
    settled_while-Rooted no_frame (top_settled (f ∷ o ∷ path)) (top_settled (f ∷ o ∷ path)) ((settled_at-stays f.place (node_of f)).rooted (o ∷ path) r)

pub under-Rooted : (f : Frame) (path : Path) → IsRooted path → IsRooted (f ∷ path)
under-Rooted f [] r = absurd r
under-Rooted f (g ∷ path) r = r

pub pushed-Rooted : (place : Place) (f : Frame) (path : Path) → IsRooted path → IsRooted (pushed_at place f path)
pushed-Rooted here f path r =
    under-Rooted f (on_top caught_up path) (on_top-Rooted caught_up path (record { tag = λ g. refl; opens = λ g. refl }) r)
pushed-Rooted (into n) f path r = under-Rooted f path r
pushed-Rooted (behind n) f path r = under-Rooted f path r
pushed-Rooted into_head f path r = under-Rooted f path r
