pub mod SignedAttributes
