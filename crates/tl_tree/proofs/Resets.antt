-- Which insertion mode the stack decides, a frame further out with each step.
use Rattle.std.proofs.Common.{IfSome, List, None, Option, Some, Bool, ap, arith, cond, false, get_or, length, map, nat_lt, refl, reverse, suc, sym, take, true, ℕ, [], ◌+◌, ◌-◌, ◌<◌, ◌||◌, ◌∙◌, ◌∷◌, ◌≡◌}
use Rattle.std.proofs.lemmas.Bool.{false≢true, lt-ltb, ltb-true, or_parts}
use Rattle.std.proofs.lemmas.List.{get_or-map, length-map, reverse-append, take_all}
use Rattle.std.proofs.lemmas.List.Folds.{list_any-append}
use Rattle.std.specs.List.{list_any}
use Rattle.std.specs.Option.{option_map}
use Rattle.tl_dom_spec.specs.Builder as dom
use Rattle.tl_dom_spec.specs.Path as paths
use Rattle.tl_dom_spec.specs.Reset as reset
use Rattle.tl_tree.proofs.Changed.{reverse-last}
use Rattle.tl_tree.proofs.Furthest.{elements-closed, elements-open}
use Rattle.tl_tree.proofs.Gone.{elements-seen}
use Rattle.tl_tree.proofs.Listed.{map-take}
use Rattle.tl_tree.proofs.Sought.{reverse-take}
use Rattle.tl_tree.proofs.Written.{frame-at, frames-length}
use Rattle.tl_tree.specs.Inner.Adopted.{frame_at}
use Rattle.tl_tree.specs.Inner.Builders.{builder_of}
use Rattle.tl_tree.specs.Inner.Frames.{frame_of, frames_of}
use Rattle.tl_tree.specs.Inner.Modes.{mode_of}
use Rattle.tl_tree.specs.Inner.Resets.{is_open, mode_from}
use Rattle.tl_tree.specs.Inner.Store.{tag_at}
use Rattle.tl_tree.specs.declared.builder.Builder.{Builder}
use Rattle.tl_tree.specs.declared.frame.Frame.{Frame}
use Rattle.tl_tree.specs.declared.mode.Mode.{Mode}
use Rattle.tl_tree.specs.declared.path.FramePath.{FramePath}
use Rattle.tl_tree.specs.declared.store.Store.{Store}

-- The stack of template modes, which is kept with the current one last

pub current-some : (modes own : List Mode) (m : Mode) → modes ≡ own → true ≡ nat_lt 0 (length modes) → m ≡ get_or modes (length modes - 1) m → mode_of m ≡ reset.current_template_mode (reverse (map mode_of own))
current-some modes own m same some is =
    let least = ltb-true 0 (length modes) (sym some) in
    let last : length modes ≡ suc (length modes - 1) = omega arith in
    let many = length-map modes mode_of in
    sym (ap (λ all. reset.current_template_mode (reverse (map mode_of all))) (sym same)
    ∙ (ap reset.current_template_mode (reverse-last (map mode_of modes) (length modes - 1) (mode_of m) (omega arith))
    ∙ (get_or-map mode_of modes (length modes - 1) m (mode_of m) (omega arith) ∙ ap mode_of (sym is))))

pub current-none : (modes own : List Mode) → modes ≡ own → false ≡ nat_lt 0 (length modes) → dom.in_template ≡ reset.current_template_mode (reverse (map mode_of own))
current-none [] own same none = ap (λ all. reset.current_template_mode (reverse (map mode_of all))) same
current-none (m ∷ modes) own same none =
    absurd (false≢true (none ∙ lt-ltb 0 (length (m ∷ modes)) (omega arith)))

pub current-gone : (modes rest : List Mode) (n : ℕ) → rest ≡ take (n - 1) modes → n ≡ length modes → reverse (map mode_of rest) ≡ reset.templates_popped (reverse (map mode_of modes))
current-gone [] rest n gone many =
    ap (λ all. reverse (map mode_of all)) (gone ∙ ap (λ (k : ℕ). take {A = Mode} (k - 1) []) many)
current-gone (m ∷ modes) rest n gone many =
    let all = m ∷ modes in
    let long = length-map all mode_of in
    let last : n ≡ suc (n - 1) = omega arith in
    ap (λ own. reverse (map mode_of own)) gone
    ∙ (ap reverse (map-take mode_of (n - 1) all)
    ∙ sym (ap reset.templates_popped (reverse-last (map mode_of all) (n - 1) (mode_of m) (omega arith))))

-- What is around a frame

abbrev around : FramePath → ℕ → List paths.Frame
around p n = reverse (take n (frames_of p))

abbrev is_in_stack : paths.Frame → Bool
is_in_stack f = f.is_open

any-reversed : (s : Store) (xs : List Frame) → list_any is_in_stack (reverse (map (frame_of s) xs)) ≡ list_any is_open xs
any-reversed s [] = refl
any-reversed s (f ∷ xs) =
    ap (list_any is_in_stack) (reverse-append (frame_of s f ∷ []) (map (frame_of s) xs))
    ∙ (list_any-append is_in_stack (reverse (map (frame_of s) xs)) (frame_of s f ∷ [])
    ∙ (ap (λ b. b || (f.is_open || false)) (any-reversed s xs) ∙ swapped (list_any is_open xs) f.is_open))
  where
    swapped : (x y : Bool) → (x || (y || false)) ≡ (y || x)
    swapped true true = refl
    swapped true false = refl
    swapped false true = refl
    swapped false false = refl

any-around : (p : FramePath) (n : ℕ) → list_any is_in_stack (around p n) ≡ list_any is_open (take n p.frames.items)
unfolding frames_of
any-around p n =
    ap (λ frames. list_any is_in_stack (reverse frames)) (sym (map-take (frame_of p.store) n p.frames.items))
    ∙ any-reversed p.store (take n p.frames.items)

stack-none : (path : paths.Path) → list_any is_in_stack path ≡ false → paths.elements path ≡ []
stack-none [] h = refl
stack-none (f ∷ path) h =
    let q = or_parts f.is_open (list_any is_in_stack path) h in
    ap (λ b. cond b (f ∷ paths.elements path) (paths.elements path)) q.0 ∙ stack-none path q.1

stack-some : (path : paths.Path) → list_any is_in_stack path ≡ true → (g : paths.Frame) × (fs : List paths.Frame) × (paths.elements path ≡ g ∷ fs)
stack-some [] h = absurd (false≢true h)
stack-some (f ∷ path) h = by-first f.is_open (stack-some path) h
  where
    by-first : (b : Bool) → (list_any is_in_stack path ≡ true → (g : paths.Frame) × (fs : List paths.Frame) × (paths.elements path ≡ g ∷ fs)) → (b || list_any is_in_stack path) ≡ true → (g : paths.Frame) × (fs : List paths.Frame) × (cond b (f ∷ paths.elements path) (paths.elements path) ≡ g ∷ fs)
    by-first true outer e = (f, paths.elements path, refl)
    by-first false outer e = outer e

-- The modes

pub mode-all : (b : Builder) (n : ℕ) → n ≡ length b.path.frames.items → reset.mode_of (builder_of b) (paths.elements (builder_of b).path) ≡ mode_from b n
unfolding mode_from builder_of
mode-all b n e =
    let many = frames-length b.path in
    ap (reset.mode_of (builder_of b)) (elements-seen b.path)
    ∙ ap (λ frames. reset.mode_of (builder_of b) (paths.elements (reverse frames))) (sym (take_all n (frames_of b.path) (omega arith)))

pub mode-none : (b : Builder) → mode_from b 0 ≡ dom.in_body
unfolding mode_from
mode-none b = refl

mode-next : (b : Builder) (n : ℕ) (f : Frame) → f ≡ get_or b.path.frames.items n f → n < length b.path.frames.items → mode_from b (n + 1) ≡ reset.mode_of (builder_of b) (cond f.is_open (frame_of b.path.store f ∷ paths.elements (around b.path n)) (paths.elements (around b.path n)))
unfolding mode_from
mode-next b n f is h =
    let p = b.path in
    let many = frames-length p in
    let next : n + 1 ≡ suc n = omega arith in
    ap (λ i. reset.mode_of (builder_of b) (paths.elements (reverse (take i (frames_of p))))) next
    ∙ ap (λ path. reset.mode_of (builder_of b) (paths.elements path))
    (reverse-take (frames_of p) n (frame_of p.store f) (omega arith) ∙ ap (λ top. top ∷ around p n) (frame-at p n f is))

-- one that left the stack
pub mode-closed : (b : Builder) (n : ℕ) (f : Frame) → f ≡ get_or b.path.frames.items n f → n < length b.path.frames.items → f.is_open ≡ false → mode_from b (n + 1) ≡ mode_from b n
unfolding mode_from
mode-closed b n f is h closed =
    mode-next b n f is h
    ∙ ap (λ o. reset.mode_of (builder_of b) (cond o (frame_of b.path.store f ∷ paths.elements (around b.path n)) (paths.elements (around b.path n)))) closed

mode-open : (b : Builder) (n : ℕ) (f : Frame) → f ≡ get_or b.path.frames.items n f → n < length b.path.frames.items → f.is_open ≡ true → mode_from b (n + 1) ≡ reset.mode_of (builder_of b) (frame_of b.path.store f ∷ paths.elements (around b.path n))
mode-open b n f is h opened =
    mode-next b n f is h
    ∙ ap (λ o. reset.mode_of (builder_of b) (cond o (frame_of b.path.store f ∷ paths.elements (around b.path n)) (paths.elements (around b.path n)))) opened

-- one with others of the stack around it
pub mode-inner : (b : Builder) (n : ℕ) (f : Frame) → f ≡ get_or b.path.frames.items n f → n < length b.path.frames.items → f.is_open ≡ true → list_any is_open (take n b.path.frames.items) ≡ true → mode_from b (n + 1) ≡ reset.or_mode (reset.tag_mode (builder_of b) false (tag_at b.path.store f.tag)) (mode_from b n)
unfolding mode_from
mode-inner b n f is h opened some =
    let d = builder_of b in
    let own = frame_of b.path.store f in
    let around_it = stack-some (around b.path n) (any-around b.path n ∙ some) in
    mode-open b n f is h opened
    ∙ (ap (λ fs. reset.mode_of d (own ∷ fs)) around_it.2
    ∙ ap (λ fs. reset.or_mode (reset.tag_mode d false own.tag) (reset.mode_of d fs)) (sym around_it.2))

-- the last one
pub mode-last : (b : Builder) (n : ℕ) (f : Frame) → f ≡ get_or b.path.frames.items n f → n < length b.path.frames.items → f.is_open ≡ true → list_any is_open (take n b.path.frames.items) ≡ false → mode_from b (n + 1) ≡ reset.or_mode (reset.tag_mode (builder_of b) true (reset.last_tag (builder_of b).context (tag_at b.path.store f.tag))) (mode_from b n)
unfolding mode_from
mode-last b n f is h opened none =
    let d = builder_of b in
    let own = frame_of b.path.store f in
    let around_it = stack-none (around b.path n) (any-around b.path n ∙ none) in
    mode-open b n f is h opened
    ∙ (ap (λ fs. reset.mode_of d (own ∷ fs)) around_it
    ∙ ap (λ fs. reset.or_mode (reset.tag_mode d true (reset.last_tag d.context own.tag)) (reset.mode_of d fs)) (sym around_it))

-- one that decides none, with others of the stack around it
pub mode-past : (b : Builder) (n : ℕ) → n < length b.path.frames.items → list_any is_open (take n b.path.frames.items) ≡ true → reset.tag_mode (builder_of b) false (frame_at b.path n).tag ≡ None → mode_from b (n + 1) ≡ mode_from b n
unfolding mode_from
mode-past b n h some none = by-open (frame_at b.path n).is_open refl
  where
    by-open : (o : Bool) → (frame_at b.path n).is_open ≡ o → reset.mode_of (builder_of b) (paths.elements (around b.path (n + 1))) ≡ reset.mode_of (builder_of b) (paths.elements (around b.path n))
    by-open false closed = ap (reset.mode_of (builder_of b)) (elements-closed b.path n h closed)
    by-open true opened =
        let d = builder_of b in
        let own = frame_at b.path n in
        let around_it = stack-some (around b.path n) (any-around b.path n ∙ some) in
        ap (reset.mode_of d) (elements-open b.path n h opened)
        ∙ (ap (λ fs. reset.mode_of d (own ∷ fs)) around_it.2
        ∙ (ap (λ fs. reset.or_mode (reset.tag_mode d false own.tag) (reset.mode_of d fs)) (sym around_it.2)
        ∙ ap (λ o. reset.or_mode o (reset.mode_of d (paths.elements (around b.path n)))) none))

-- what is decided, or left to those further out
pub decided-some : (r : Option Mode) (m : Option dom.Mode) (outer all : dom.Mode) → option_map mode_of r ≡ m → all ≡ reset.or_mode m outer → IfSome r (λ own. all ≡ mode_of own)
decided-some None m outer all is e = tt
decided-some (Some own) m outer all is e = e ∙ ap (λ o. reset.or_mode o outer) (sym is)

pub decided-none : (r : Option Mode) (m : Option dom.Mode) (outer all : dom.Mode) → option_map mode_of r ≡ m → all ≡ reset.or_mode m outer → r ≡ None → all ≡ outer
decided-none r m outer all is e none =
    e ∙ (ap (λ o. reset.or_mode o outer) (sym is) ∙ ap (λ o. reset.or_mode (option_map mode_of o) outer) none)
