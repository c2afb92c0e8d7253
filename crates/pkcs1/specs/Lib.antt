pub mod RsaPrivateKey
