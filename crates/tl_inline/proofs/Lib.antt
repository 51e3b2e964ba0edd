pub mod Lists
pub mod Maps
pub mod PairStorageLemmas
pub mod PlacesLemmas
pub mod HeapFormLemmas
