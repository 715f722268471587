-- The demands of document 00, over the promises alone: the files Demand*, NoSecondReply, SomeReply, LineZero, Phases and Texts have the
-- statements, the others what they rest on.
pub mod Demand1
pub mod Demand1Places
pub mod Demand1Exports
pub mod Demand1Given
pub mod NoSecondReply
pub mod SomeReply
pub mod Demand2Vectors
pub mod FirstHits
pub mod Demand2Hits
pub mod Demand2File
pub mod CellLists
pub mod Chains
pub mod Cuts
pub mod CutHits
pub mod Demand3Listing
pub mod LineZero
pub mod Phases
pub mod BlankingLists
pub mod CutMaps
pub mod Demand3Adding
pub mod Making
pub mod Texts
