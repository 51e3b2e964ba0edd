-- What a policy keeps of trees, made to stay as it is once a browser reads it.
use Rattle.tl_dom_spec.specs.HtmlForest.{HtmlForest}
use Rattle.tl_tree_safe.specs.Fitted.{at_top, fitted}
use Rattle.tl_tree_safe.specs.Kept.{kept}
use Rattle.tl_tree_safe.specs.Lists.{ListedWords}

abbrev pub kept_fitted : ListedWords → HtmlForest → HtmlForest
kept_fitted p trees = fitted at_top (kept p trees)
