use Rattle.std.proofs.Common.{◌≡◌}
use Rattle.tl_inline.specs.Inner.HeapForm.{form_entries}
use Rattle.tl_inline.proofs.Maps.{list_clone_is}
use Rattle.tl_inline.proofs.inline.hashmap.heap.HeapPairs.clone.Goals as goal

pub returns-in_ok-clone-in-Indexed : goal.returns-in_ok-clone-in-Indexed
returns-in_ok-clone-in-Indexed g c =
    let at : form_entries c.self.inside.form ≡ c.args.self.now = c.self.view_is in
    list_clone_is g.K.Clone.is_clone g.V.Clone.is_clone c.args.self.now c.in-Indexed.indexed.entries c.in_ok-clone-in-Indexed.field-0.entries
    (rw c.in-Indexed.is at at) c.requires.keys c.requires.values c.in_ok-clone-in-Indexed.ensures.cases
