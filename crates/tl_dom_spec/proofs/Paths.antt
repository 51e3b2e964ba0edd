-- Paths whose frames hold what tokens allow, and what is done to them: it keeps that.
use Rattle.std.proofs.Common.{◌≡◌, ℕ, ◌==◌, Bool, true, false, not, ◌||◌, List, [], ◌∷◌, ◌⊎◌, inl, inr, map, sym, ◌∙◌, true≢false, if◌then◌else◌}
use Rattle.std.specs.Prelude.{⊤}
use Rattle.std.proofs.lemmas.Bool.{cond_both}
use Rattle.tl_dom_spec.specs.Tags.{Attribute, Tag, is_html}
use Rattle.tl_dom_spec.specs.Path.{Frame, Nodes, Path, Place, at_head, at_number, behind, caught_up, here, implied_closed, into, into_head, joined, new_frame, node_of, on_top, popped, popped_through, popped_to, popped_while, put, settled_at, settled_while, taken_out, top, top_settled, with_nodes, with_waiting}
use Rattle.tl_dom_spec.specs.Builder.{pushed_at, with_more}
use Rattle.tl_dom_spec.specs.Body.{from_html}
use Rattle.tl_dom_spec.proofs.Allowed.{Allowed, Good, at_head-Good, element-Good, joined-Good}

module _ (R : Allowed) where
  abbrev pub Inner : Frame → Type 0
  Inner f = Good R f.children × Good R f.waiting

  -- of the outermost frame, which isn't settled, the tag is no matter where it isn't open: the document, which counts as HTML
  abbrev pub Tagged : Frame → Path → Type 0
  Tagged f [] = (f.is_open ≡ true → R.Opens f.tag) × (R.Opens f.tag ⊎ (is_html f.tag ≡ true))
  Tagged f (g ∷ path) = R.Opens f.tag

  abbrev pub Frames : Path → Type 0
  Frames [] = ⊤
  Frames (f ∷ path) = Inner f × Tagged f path × Frames path

  pub tagged_opens : (f : Frame) (path : Path) → R.Opens f.tag → Tagged f path
  tagged_opens f [] o = (λ _. o, inl o)
  tagged_opens f (g ∷ path) o = o

  pub open_opens : (f : Frame) (path : Path) → Tagged f path → f.is_open ≡ true → R.Opens f.tag
  open_opens f [] t o = t.0 o
  open_opens f (g ∷ path) t o = t

  -- changes of a frame

  pub record Keeps (change : Frame → Frame) : Type 0 where
    pub inner : (f : Frame) → Inner f → Inner (change f)
    pub tag : (f : Frame) → R.Opens f.tag → R.Opens (change f).tag
    pub html : (f : Frame) → is_html f.tag ≡ true → is_html (change f).tag ≡ true
    pub open_before : (f : Frame) → (change f).is_open ≡ true → f.is_open ≡ true

  either-tag : (change : Frame → Frame) (f : Frame) → Keeps change → R.Opens f.tag ⊎ (is_html f.tag ≡ true) → R.Opens (change f).tag ⊎ (is_html (change f).tag ≡ true)
  either-tag change f k (inl o) = inl (k.tag f o)
  either-tag change f k (inr e) = inr (k.html f e)

  same-tagged : (change : Frame → Frame) (f : Frame) (path : Path) → Keeps change → Tagged f path → Tagged (change f) path
  same-tagged change f [] k t = (λ o. k.tag f (t.0 (k.open_before f o)), either-tag change f k t.1)
  same-tagged change f (g ∷ path) k t = k.tag f t

  pub on_top-Frames : (change : Frame → Frame) (path : Path) → Keeps change → Frames path → Frames (on_top change path)
  on_top-Frames change [] k h = tt
  on_top-Frames change (f ∷ path) k h = (k.inner f h.0, same-tagged change f path k h.1, h.2)

  map-tagged : (change : Frame → Frame) (f : Frame) (path : Path) → Tagged f path → Tagged f (map change path)
  map-tagged change f [] t = t
  map-tagged change f (g ∷ path) t = t

  map-Frames : (change : Frame → Frame) (path : Path) → Keeps change → Frames path → Frames (map change path)
  map-Frames change [] k h = tt
  map-Frames change (f ∷ path) k h =
      (k.inner f h.0, map-tagged change (change f) path (same-tagged change f path k h.1), map-Frames change path k h.2)

  at-keeps : (n : ℕ) (change : Frame → Frame) → Keeps change → Keeps (λ (f : Frame). if f.number == n then change f else f)
  at-keeps n change k = record {
    inner = λ f i. cond_both (f.number == n) (change f) f Inner (λ _. k.inner f i) (λ _. i);
    tag = λ f o. cond_both (f.number == n) (change f) f (λ x. R.Opens x.tag) (λ _. k.tag f o) (λ _. o);
    html = λ f e. cond_both (f.number == n) (change f) f (λ x. is_html x.tag ≡ true) (λ _. k.html f e) (λ _. e);
    open_before = λ f. cond_both (f.number == n) (change f) f (λ x. x.is_open ≡ true → f.is_open ≡ true) (λ _. k.open_before f) (λ _ o. o);
  }

  pub at_number-Frames : (n : ℕ) (change : Frame → Frame) (path : Path) → Keeps change → Frames path → Frames (at_number n change path)
  at_number-Frames n change path k h = map-Frames _ path (at-keeps n change k) h

  caught_up-keeps : Keeps caught_up
  caught_up-keeps = record {
    inner = λ f i. (joined-Good R f.children f.waiting i.0 i.1, tt);
    tag = λ f o. o;
    html = λ f e. e;
    open_before = λ f o. o;
  }

  with_nodes-keeps : (nodes : Nodes) → Good R nodes → Keeps (with_nodes nodes)
  with_nodes-keeps nodes g = record {
    inner = λ f i. (joined-Good R f.children nodes i.0 g, i.1);
    tag = λ f o. o;
    html = λ f e. e;
    open_before = λ f o. o;
  }

  with_waiting-keeps : (nodes : Nodes) → Good R nodes → Keeps (with_waiting nodes)
  with_waiting-keeps nodes g = record {
    inner = λ f i. (i.0, joined-Good R f.waiting nodes i.1 g);
    tag = λ f o. o;
    html = λ f e. e;
    open_before = λ f o. o;
  }

  into_head-keeps : (nodes : Nodes) → Good R nodes → Keeps (λ (f : Frame). record f { children = at_head f.children nodes })
  into_head-keeps nodes g = record {
    inner = λ f i. (at_head-Good R f.children nodes i.0 g, i.1);
    tag = λ f o. o;
    html = λ f e. e;
    open_before = λ f o. o;
  }

  then-keeps : (first second : Frame → Frame) → Keeps first → Keeps second → Keeps (λ (f : Frame). second (first f))
  then-keeps first second k l = record {
    inner = λ f i. l.inner (first f) (k.inner f i);
    tag = λ f o. l.tag (first f) (k.tag f o);
    html = λ f e. l.html (first f) (k.html f e);
    open_before = λ f o. k.open_before f (l.open_before (first f) o);
  }

  left-keeps : Keeps (λ (f : Frame). record f { is_open = false })
  left-keeps = record { inner = λ f i. i; tag = λ f o. o; html = λ f e. e; open_before = λ f o. absurd (true≢false (sym o)) }

  more-keeps : (more : List Attribute) → R.Adds more → Keeps (λ (f : Frame). record f { tag = with_more more f.tag })
  more-keeps more a = record { inner = λ f i. i; tag = λ f o. R.adds f.tag more o a; html = λ f e. e; open_before = λ f o. o }

  -- places

  pub put-Frames : (place : Place) (nodes : Nodes) (path : Path) → Good R nodes → Frames path → Frames (put place nodes path)
  put-Frames here nodes path g h = on_top-Frames _ path (then-keeps caught_up (with_nodes nodes) caught_up-keeps (with_nodes-keeps nodes g)) h
  put-Frames (into k) nodes path g h = at_number-Frames k (with_nodes nodes) path (with_nodes-keeps nodes g) h
  put-Frames (behind k) nodes path g h = at_number-Frames k (with_waiting nodes) path (with_waiting-keeps nodes g) h
  put-Frames into_head nodes path g h = on_top-Frames _ path (into_head-keeps nodes g) h

  settled_at-Frames : (place : Place) (nodes : Nodes) (path : Path) → Good R nodes → Frames path → Frames (settled_at place nodes path)
  settled_at-Frames here nodes path g h = on_top-Frames _ path (then-keeps (with_nodes nodes) caught_up (with_nodes-keeps nodes g) caught_up-keeps) h
  settled_at-Frames (into k) nodes path g h = put-Frames (into k) nodes path g h
  settled_at-Frames (behind k) nodes path g h = put-Frames (behind k) nodes path g h
  settled_at-Frames into_head nodes path g h = put-Frames into_head nodes path g h

  node_of-Good : (f : Frame) → R.Opens f.tag → Inner f → Good R (node_of f)
  node_of-Good f o i = element-Good R f.tag (joined f.children f.waiting) o (joined-Good R f.children f.waiting i.0 i.1)

  top_settled-Frames : (path : Path) → Frames path → Frames (top_settled path)
  top_settled-Frames [] h = tt
  top_settled-Frames (f ∷ []) h = h
  top_settled-Frames (f ∷ outer ∷ path) h = settled_at-Frames f.place (node_of f) (outer ∷ path) (node_of-Good f h.1 h.0) h.2

  pub settled_while-Frames : (test : Frame → Bool) (count path : Path) → Frames path → Frames (settled_while test count path)
  settled_while-Frames test [] path h = h
  settled_while-Frames test (f ∷ count) [] h = tt
  settled_while-Frames test (f ∷ count) (top ∷ path) h =
      elim (not top.is_open || test top) as (λ v. Frames (elim v as (λ _. Path) [
        | true ↦ settled_while test count (top_settled (top ∷ path))
        | false ↦ top ∷ path
      ])) [
        | true ↦ settled_while-Frames test count (top_settled (top ∷ path)) (top_settled-Frames (top ∷ path) h)
        | false ↦ h
      ]

  -- the stack

  pub popped-Frames : (path : Path) → Frames path → Frames (popped path)
  popped-Frames path h = settled_while-Frames _ (top_settled path) (top_settled path) (top_settled-Frames path h)

  pub popped_to-Frames : (test : Frame → Bool) (path : Path) → Frames path → Frames (popped_to test path)
  popped_to-Frames test path h = settled_while-Frames _ path path h

  pub popped_through-Frames : (test : Frame → Bool) (path : Path) → Frames path → Frames (popped_through test path)
  popped_through-Frames test path h = popped-Frames (popped_to test path) (popped_to-Frames test path h)

  pub popped_while-Frames : (test : Frame → Bool) (path : Path) → Frames path → Frames (popped_while test path)
  popped_while-Frames test path h = settled_while-Frames test path path h

  pub implied_closed-Frames : (but : Tag → Bool) (path : Path) → Frames path → Frames (implied_closed but path)
  implied_closed-Frames but path h = settled_while-Frames _ path path h

  pub taken_out-Frames : (k : ℕ) (path : Path) → Frames path → Frames (taken_out k path)
  taken_out-Frames k path h =
      let less = at_number-Frames k _ path left-keeps h in settled_while-Frames _ _ _ less

  pub more-Frames : (k : ℕ) (more : List Attribute) (path : Path) → R.Adds more → Frames path →
      Frames (at_number k (λ (f : Frame). record f { tag = with_more more f.tag }) path)
  more-Frames k more path a h = at_number-Frames k _ path (more-keeps more a) h

  new-Frames : (k : ℕ) (tag : Tag) (place : Place) (path : Path) → R.Opens tag → Frames path → Frames (new_frame k tag place ∷ path)
  new-Frames k tag place path o h = ((tt, tt), tagged_opens (new_frame k tag place) path o, h)

  pub pushed_at-Frames : (place : Place) (k : ℕ) (tag : Tag) (own : Place) (path : Path) → R.Opens tag → Frames path → Frames (pushed_at place (new_frame k tag own) path)
  pushed_at-Frames here k tag own path o h = new-Frames k tag own (on_top caught_up path) o (on_top-Frames caught_up path caught_up-keeps h)
  pushed_at-Frames (into n) k tag own path o h = new-Frames k tag own path o h
  pushed_at-Frames (behind n) k tag own path o h = new-Frames k tag own path o h
  pushed_at-Frames into_head k tag own path o h = new-Frames k tag own path o h

  pub from_html-Frames : (path : Path) → Frames path → Frames (from_html path)
  from_html-Frames [] h = tt
  from_html-Frames (f ∷ []) h = h
  from_html-Frames (f ∷ g ∷ path) h = cond_both (f.number == 1) _ _ Frames (λ _. h) (λ _. from_html-Frames (g ∷ path) h.2)

  -- a foreign element on top may be opened
  pub top-opens : (path : Path) → Frames path → is_html (top path).tag ≡ false → R.Opens (top path).tag
  top-opens [] h e = absurd (true≢false e)
  top-opens (f ∷ []) h e = elim h.1.1 [
    | inl o ↦ o
    | inr t ↦ absurd (true≢false (sym t ∙ e))
  ]
  top-opens (f ∷ g ∷ path) h e = h.1

  -- what is on top, at the end
  pub top-Inner : (path : Path) → Frames path → Inner (top path)
  top-Inner [] h = (tt, tt)
  top-Inner (f ∷ path) h = h.0
