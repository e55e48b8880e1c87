pub mod Applicant
pub mod Applicants
pub mod Admission
pub mod Meaning
pub mod ApplicantEdges
pub mod AdmissionEdges
pub mod Theorems
