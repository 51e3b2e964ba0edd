use Rattle.std.proofs.Common.{List, ap, refl, rules, true, false, ℕ, ◌++◌, ◌∙◌, ◌≡◌}
use Rattle.json.specs.Print.{begins, token_text}
use Rattle.json.specs.Token.{Token, key, number, string}
use Rattle.std.specs.Fmt.{decimal}
use Rattle.std.specs.Str.Lossy.{utf8_lossy}
use Rattle.tl_tree_extract.proofs.Sinks.{by_bytes}
use Rattle.tl_tree_extract.specs.Inner.Sinks.{comma, known_key, mark_token}
use Rattle.tl_tree_extract.proofs.json_text.TextSink.string.Goals as goal

pub returns-clause-adds : goal.returns-clause-adds
returns-clause-adds c =
    let t : Token = string (utf8_lossy c.args.bytes.now) in
    let o : List ℕ = c.args.self.now.out.items in
    let m : List ℕ = c.put_comma.new.self.out.items in
    let n : List ℕ = c.put_quoted.new.self.out.items in
    let begun : m ≡ o ++ comma c.args.self.now.after_value (begins t) = c.in_ok-put_comma.ensures.text in
    let said : n ≡ m ++ token_text t = search rules in
    by_bytes o m n c.args.self.now.after_value true t begun said refl
