pub mod MyOctets
pub mod AlgorithmIdentifier
pub mod KeyInfo
pub mod AscendingStrings
pub mod VersionOctet
