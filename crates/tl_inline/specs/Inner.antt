-- What the proofs and private functions of this crate cite, and no public clause.
pub mod InlineVecLends
pub mod InlineMapLends
pub mod ItemStorage
pub mod ItemStorageLends
pub mod PairTableLends
pub mod HeapForm
pub mod HeapFormLends
pub mod HeapPairsLends
pub mod PairStorage
pub mod PairStorageLends
