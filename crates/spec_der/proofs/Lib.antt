pub mod Table
pub mod Forms
pub mod LengthLaws
pub mod ShortestLaws
pub mod ElementLaws
pub mod TbsLaws
pub mod CertificateLaws
pub mod KeyLaws
