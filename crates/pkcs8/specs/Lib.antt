pub mod PrivateKeyInfo
