use Rattle.std.proofs.Common.{◌≡◌, ℕ, Bool, List, ◌++◌, map, take, ap, sym, subst, ◌∙◌}
use Rattle.tl_html_spec.specs.Balanced.{Names, closed_by, put_in}
use Rattle.tl_html_spec.specs.HtmlTokenizer.{EndTag}
use Rattle.tl_html_balance.specs.Tokens.{tokens_put_in}
use Rattle.tl_html_balance.specs.View.{name_of as tag_name, open_names}
use Rattle.tl_html_balance.specs.declared.balance.PutIn.{PutIn}
use Rattle.tl_html_parts.specs.Parts.{name_of}
use Rattle.tl_patch_spec.specs.Elements.{PlacedToken, tokens_at}
use Rattle.tl_patch_elements.specs.Inner.Finding.{elements_with}
use Rattle.tl_patch_elements.proofs.Tags.{end_goes, put_named}
use Rattle.tl_patch_elements.proofs.finder.Finder.push_end_tag.Goals as goal

pub push_put_in-requires : goal.push_put_in-requires
push_put_in-requires c =
    let n : List ℕ = name_of c.args.name.now in
    let tags : Names = open_names c.args.self.now.open_tags in
    let put : PutIn = c.put_in-put_in.result in
    let known : tag_name c.new-known_name.result ≡ n = c.new-known_name.ensures ∙ c.as_bytes.ensures ∙ c.in_ok-bytes.ensures in
    put_named n tags put (subst (λ (x : List ℕ). put_in x tags ≡ tokens_put_in put x) known c.put_in-put_in.ensures)

pub returns : goal.returns
returns c =
    let n : List ℕ = name_of c.args.name.now in
    let tags : Names = open_names c.args.self.now.open_tags in
    let put : PutIn = c.put_in-put_in.result in
    let k : ℕ = c.closed_by_end-count.result in
    let known : tag_name c.new-known_name.result ≡ n = c.new-known_name.ensures ∙ c.as_bytes.ensures ∙ c.in_ok-bytes.ensures in
    end_goes c.args.self.now c.close.new.self c.push_put_in.new.self c.args.at n k put
    (c.closed_by_end-count.ensures.value ∙ ap (λ (x : List ℕ). closed_by x tags) known)
    (subst (λ (x : List ℕ). put_in x tags ≡ tokens_put_in put x) known c.put_in-put_in.ensures)
    (λ (rest : List PlacedToken).
    ap (λ (w : Bool). elements_with c.args.self.now (tokens_at c.args.at w (map EndTag (take k tags)) ++ rest)) (sym c.is_nothing-is_own.ensures)
    ∙ c.in_ok-close.ensures.elements rest)
    c.in_ok-close.ensures.names c.in_ok-push_put_in.ensures.elements c.in_ok-push_put_in.ensures.names
