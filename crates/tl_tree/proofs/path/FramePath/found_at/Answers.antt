use Rattle.std.proofs.Common.{ap, map, sym, ◌≡◌, ◌∙◌, false, true}
use Rattle.std.specs.Char.{to_ascii_lowercase}
use Rattle.std.specs.Str.{bytes_eq}
use Rattle.tl_dom_spec.specs.Dispatcher.{the_frame}
use Rattle.tl_dom_spec.specs.Path.{Frame}
use Rattle.tl_dom_spec.specs.Tags.{is_html}
use Rattle.tl_tree.proofs.StackWalk.{found-html, found-named, found-on, framed-is}
use Rattle.tl_tree.specs.Inner.Found.{framed}
use Rattle.tl_tree.proofs.path.FramePath.found_at.Goals as goal

pub returns-then-is_named_lower-clause-some : goal.returns-then-is_named_lower-clause-some
returns-then-is_named_lower-clause-some c others =
    let p = c.args.self.now in
    let name = c.args.name.now in
    let f = framed p c.args.inner in
    let own = framed-is p c.args.inner c.index-own.result.now c.index-own.ensures c.requires.inner in
    let named : bytes_eq (map to_ascii_lowercase f.tag.name) name ≡ true =
    ap (λ (x : Frame). bytes_eq (map to_ascii_lowercase x.tag.name) name) own
    ∙ sym c.is_named_lower.ensures ∙ c.if-is_named_lower.true in
    found-named name f (framed p c.args.outer) others named ∙ ap (λ (x : Frame). the_frame x.number) own

pub returns-then-is_html-clause-some : goal.returns-then-is_html-clause-some
returns-then-is_html-clause-some c others =
    let p = c.args.self.now in
    let name = c.args.name.now in
    let f = framed p c.args.inner in
    let g = framed p c.args.outer in
    let own = framed-is p c.args.inner c.index-own.result.now c.index-own.ensures c.requires.inner in
    let around = framed-is p c.args.outer c.index-around.result.now c.index-around.ensures c.requires.outer in
    let named : bytes_eq (map to_ascii_lowercase f.tag.name) name ≡ false =
    ap (λ (x : Frame). bytes_eq (map to_ascii_lowercase x.tag.name) name) own
    ∙ sym c.is_named_lower.ensures ∙ c.if-is_named_lower.false in
    let html : is_html g.tag ≡ true =
    ap (λ (x : Frame). is_html x.tag) around ∙ sym c.is_html.ensures ∙ c.if-is_html.true in
    found-html name f g others named html

pub returns-clause-none : goal.returns-clause-none
returns-clause-none c none others =
    let p = c.args.self.now in
    let name = c.args.name.now in
    let f = framed p c.args.inner in
    let g = framed p c.args.outer in
    let own = framed-is p c.args.inner c.index-own.result.now c.index-own.ensures c.requires.inner in
    let around = framed-is p c.args.outer c.index-around.result.now c.index-around.ensures c.requires.outer in
    let named : bytes_eq (map to_ascii_lowercase f.tag.name) name ≡ false =
    ap (λ (x : Frame). bytes_eq (map to_ascii_lowercase x.tag.name) name) own
    ∙ sym c.is_named_lower.ensures ∙ c.if-is_named_lower.false in
    let html : is_html g.tag ≡ false =
    ap (λ (x : Frame). is_html x.tag) around ∙ sym c.is_html.ensures ∙ c.if-is_html.false in
    found-on name f g others named html
