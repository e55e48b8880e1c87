mod PartTests
