-- Elements between the block and the formatting element are made anew.
use Rattle.std.proofs.Common.{ap, arith, subst, sym, ◌∙◌, ◌≡◌, ◌+◌, ◌≤◌, ◌<◌, ◌++◌, ◌∷◌, [], Bool, List, cond, drop, false, get_or, length, length-append, nat_eq, nat_lt, refl, reverse, suc, take, true, ℕ}
use Rattle.std.proofs.Math.ListN.{get_or-append}
use Rattle.std.proofs.Math.Seq.{drop-append_seam, take-append_seam}
use Rattle.std.proofs.lemmas.Bool.{eq-eqb, ne_eqb}
use Rattle.std.proofs.lemmas.List.{append_assoc, length-reverse, length-take-le, reverse-append, take-append-drop}
use Rattle.std.specs.List.{insert}
use Rattle.tl_dom_spec.specs.Adoption.{Clones, cloned, inside_of}
use Rattle.tl_dom_spec.specs.Builder as dom
use Rattle.tl_dom_spec.specs.Formatting.{is_listed, relisted, unlisted}
use Rattle.tl_dom_spec.specs.Path.{Frame, Path, at_head, document, elements, here, new_frame, no_nodes}
use Rattle.tl_tree.proofs.Grown.{nodes-none}
use Rattle.tl_tree.proofs.Sought.{reverse-take}
use Rattle.tl_tree.proofs.Written.{children-none, frames-length, same-frame}
use Rattle.tl_tree.specs.Inner.Adopted.{AreMade, after_clones, filled, frame_at, with_clones, with_element}
use Rattle.tl_tree.specs.Inner.Frames.{frame_of, frames_of}
use Rattle.tl_tree.specs.Inner.Store.{nodes_of, tag_at}
use Rattle.tl_tree.specs.declared.frame.Frame as code
use Rattle.tl_tree.specs.declared.path.FramePath.{FramePath}

-- what is done with an element, by two tests of it
abbrev pub done_by : ℕ → Frame → List Frame → List dom.Entry → ℕ → Bool → Bool → Clones
done_by n f fs entries next listed many =
    elim listed as (λ _. Clones) [
      | false ↦ cloned (suc n) fs entries next
      | true ↦ elim many as (λ _. Clones) [
        | true ↦ cloned (suc n) fs (unlisted f.number entries) next
        | false ↦ (let r = cloned (suc n) fs (relisted f.number next entries) (suc next) in
            record r { frames = new_frame next f.tag here ∷ r.frames })
      ]
    ]

cloned-by : (n : ℕ) (f : Frame) (fs : List Frame) (entries : List dom.Entry) (next : ℕ) (listed many : Bool) → is_listed f.number entries ≡ listed → nat_lt 2 n ≡ many → cloned n (f ∷ fs) entries next ≡ done_by n f fs entries next listed many
cloned-by n f fs entries next listed many a b =
    ap (λ (x : Bool). done_by n f fs entries next x (nat_lt 2 n)) a
    ∙ ap (λ (x : Bool). done_by n f fs entries next listed x) b

-- an element at the front of the others
pub with-closed : (f : Frame) (fs : List Frame) → f.is_open ≡ false → with_element f fs ≡ fs
with-closed f fs e = ap (λ b. cond b (f ∷ fs) fs) e

pub with-open : (f : Frame) (fs : List Frame) → f.is_open ≡ true → with_element f fs ≡ f ∷ fs
with-open f fs e = ap (λ b. cond b (f ∷ fs) fs) e

pub cloned-passed : (n m : ℕ) (f : Frame) (fs : List Frame) (entries : List dom.Entry) (next : ℕ) → f.is_open ≡ true → is_listed f.number entries ≡ false → m ≡ suc n → cloned n (with_element f fs) entries next ≡ cloned m fs entries next
cloned-passed n m f fs entries next opened a is =
    ap (λ all. cloned n all entries next) (with-open f fs opened)
    ∙ (cloned-by n f fs entries next false (nat_lt 2 n) a refl
    ∙ ap (λ (k : ℕ). cloned k fs entries next) (sym is))

pub cloned-many : (n m : ℕ) (f : Frame) (fs : List Frame) (entries others : List dom.Entry) (next : ℕ) → f.is_open ≡ true → is_listed f.number entries ≡ true → nat_lt 2 n ≡ true → m ≡ suc n → others ≡ unlisted f.number entries → cloned n (with_element f fs) entries next ≡ cloned m fs others next
cloned-many n m f fs entries others next opened a b is e =
    ap (λ all. cloned n all entries next) (with-open f fs opened)
    ∙ (cloned-by n f fs entries next true true a b
    ∙ (ap (λ (k : ℕ). cloned k fs (unlisted f.number entries) next) (sym is) ∙ ap (λ all. cloned m fs all next) (sym e)))

pub cloned-one : (n m : ℕ) (f : Frame) (fs : List Frame) (entries others : List dom.Entry) (next more : ℕ) → f.is_open ≡ true → is_listed f.number entries ≡ true → nat_lt 2 n ≡ false → m ≡ suc n → others ≡ relisted f.number next entries → more ≡ suc next → cloned n (with_element f fs) entries next ≡ after_clones (new_frame next f.tag here ∷ []) (cloned m fs others more)
cloned-one n m f fs entries others next more opened a b is e is-more =
    let own = new_frame next f.tag here ∷ [] in
    ap (λ all. cloned n all entries next) (with-open f fs opened)
    ∙ (cloned-by n f fs entries next true false a b
    ∙ (ap (λ (k : ℕ). after_clones own (cloned k fs (relisted f.number next entries) (suc next))) (sym is)
    ∙ (ap (λ all. after_clones own (cloned m fs all (suc next))) (sym e)
    ∙ ap (λ (k : ℕ). after_clones own (cloned m fs others k)) (sym is-more))))

-- no clone, and one
pub made-none : (block : ℕ) (p : FramePath) (all rest : Clones) (before after : ℕ) → all ≡ rest → after ≡ before → AreMade block p p all rest before after
made-none block p all rest before after e same = record {
  clones = [];
  frames = sym (take-append-drop block (frames_of p));
  whole = e;
  count = omega arith;
}

pub made-one : (block : ℕ) (p q : FramePath) (f : Frame) (all rest : Clones) (before after : ℕ) → frames_of q ≡ insert (frames_of p) block f → all ≡ after_clones (f ∷ []) rest → after ≡ before + 1 → AreMade block p q all rest before after
made-one block p q f all rest before after at e more = record {
  clones = f ∷ [];
  frames = at;
  whole = e;
  count = more;
}

pub new-clone : (p q : FramePath) (block : ℕ) (f : code.Frame) (own : Frame) → own ≡ frame_of p.store f → frames_of q ≡ insert (frames_of p) block (filled p.next (tag_at p.store f.tag) (frame_of p.store (record f { children = 0; late = 0; waiting = 0 }))) → frames_of q ≡ insert (frames_of p) block (new_frame p.next own.tag here)
new-clone p q block f own there at =
    let tag = tag_at p.store f.tag in
    at
    ∙ ap (insert (frames_of p) block)
    (same-frame p.next here true tag own.tag (at_head (nodes_of p.store 0) (nodes_of p.store 0)) no_nodes (nodes_of p.store 0) no_nodes (ap (λ (o : Frame). o.tag) (sym there)) (children-none p.store) (nodes-none p.store))

-- Clones that are made one after the other

pub clones-length : (block : ℕ) (clones frames : List Frame) → length (with_clones block clones frames) ≡ length clones + length frames
clones-length block clones frames =
    let all = ap length (take-append-drop block frames) in
    omega (arith, length-append (take block frames) (reverse clones ++ drop block frames), length-append (reverse clones) (drop block frames), length-append (take block frames) (drop block frames), length-reverse clones)

clones-outside : (block n : ℕ) (clones frames : List Frame) (d : Frame) → n < block → block ≤ length frames → get_or (with_clones block clones frames) n d ≡ get_or frames n d
clones-outside block n clones frames d h within =
    let many = length-take-le block frames within in
    get_or-append (take block frames) (reverse clones ++ drop block frames) d n (omega arith)
    ∙ (sym (get_or-append (take block frames) (drop block frames) d n (omega arith))
    ∙ ap (λ all. get_or all n d) (take-append-drop block frames))

-- frames outside of the block stay
pub frame-outside : (block n : ℕ) (p q : FramePath) (all rest : Clones) (before after : ℕ) → AreMade block p q all rest before after → n < block → block ≤ length p.frames.items → frame_at q n ≡ frame_at p n
frame-outside block n p q all rest before after made h within =
    let many = frames-length p in
    ap (λ frames. get_or frames n document) made.frames
    ∙ clones-outside block n made.clones (frames_of p) document h (omega arith)

clones-twice : (block : ℕ) (xs ys frames : List Frame) → block ≤ length frames → with_clones block ys (with_clones block xs frames) ≡ with_clones block (xs ++ ys) frames
clones-twice block xs ys frames within =
    let front = take block frames in
    let back = reverse xs ++ drop block frames in
    let many : block ≡ length front = sym (length-take-le block frames within) in
    let is-front : take block (front ++ back) ≡ front = ap (λ n. take n (front ++ back)) many ∙ take-append_seam front back in
    let is-back : drop block (front ++ back) ≡ back = ap (λ n. drop n (front ++ back)) many ∙ drop-append_seam front back in
    ap (λ fs. fs ++ (reverse ys ++ drop block (front ++ back))) is-front
    ∙ (ap (λ fs. front ++ (reverse ys ++ fs)) is-back
    ∙ ap (λ fs. front ++ fs)
    (sym (append_assoc (reverse ys) (reverse xs) (drop block frames))
    ∙ ap (λ fs. fs ++ drop block frames) (sym (reverse-append xs ys))))

after-twice : (xs ys : Path) (r : Clones) → after_clones xs (after_clones ys r) ≡ after_clones (xs ++ ys) r
after-twice xs ys r =
    ap (λ (frames : Path). record r { frames = frames }) (sym (append_assoc xs ys r.frames))

pub made-more : (block : ℕ) (p q r : FramePath) (all mid rest : Clones) (a b c : ℕ) → block ≤ length p.frames.items → AreMade block p q all mid a b → AreMade block q r mid rest b c → AreMade block p r all rest a c
made-more block p q r all mid rest a b c within x y =
    let many = frames-length p in
    let first = x.count in
    let second = y.count in
    record {
      clones = x.clones ++ y.clones;
      frames =
          y.frames
          ∙ (ap (with_clones block y.clones) x.frames ∙ clones-twice block x.clones y.clones (frames_of p) (omega arith));
      whole = x.whole ∙ (ap (after_clones x.clones) y.whole ∙ after-twice x.clones y.clones rest);
      count = omega (arith, length-append x.clones y.clones);
    }

-- Elements outside of the block, up to the formatting element

abbrev pub between : ℕ → FramePath → ℕ → List Frame
between k p n = elements (inside_of k (reverse (take n (frames_of p))))

between-from : (k : ℕ) (p : FramePath) (n m : ℕ) → n < length p.frames.items → m ≡ suc n → between k p m ≡ elements (cond (nat_eq (frame_at p n).number k) [] (frame_at p n ∷ inside_of k (reverse (take n (frames_of p)))))
between-from k p n m h is =
    let many = frames-length p in
    ap (between k p) is
    ∙ ap (λ path. elements (inside_of k path)) (reverse-take (frames_of p) n document (omega arith))

pub between-own : (k : ℕ) (p : FramePath) (n m : ℕ) → n < length p.frames.items → m ≡ suc n → (frame_at p n).number ≡ k → between k p m ≡ []
between-own k p n m h is own =
    between-from k p n m h is
    ∙ ap (λ b. elements (cond b [] (frame_at p n ∷ inside_of k (reverse (take n (frames_of p)))))) (eq-eqb (frame_at p n).number k own)

pub between-other : (k : ℕ) (p : FramePath) (n m : ℕ) → n < length p.frames.items → m ≡ suc n → ((frame_at p n).number ≡ k → ⊥) → between k p m ≡ with_element (frame_at p n) (between k p n)
between-other k p n m h is other =
    between-from k p n m h is
    ∙ ap (λ b. elements (cond b [] (frame_at p n ∷ inside_of k (reverse (take n (frames_of p)))))) (ne_eqb (frame_at p n).number k other)

-- the same, where what is left to be made is told otherwise
pub made-ends : (block : ℕ) (p q : FramePath) (all rest other : Clones) (a b : ℕ) → AreMade block p q all rest a b → rest ≡ other → AreMade block p q all other a b
made-ends block p q all rest other a b made e =
    subst (λ (r : Clones). AreMade block p q all r a b) e made

pub made-length : (block : ℕ) (p q : FramePath) (all rest : Clones) (a b : ℕ) → AreMade block p q all rest a b → length q.frames.items + a ≡ length p.frames.items + b
made-length block p q all rest a b made =
    let own = frames-length p in
    let new = frames-length q in
    let frames = ap length made.frames in
    let many = clones-length block made.clones (frames_of p) in
    let count = made.count in
    omega arith
