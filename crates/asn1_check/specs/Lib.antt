pub mod TagSet
